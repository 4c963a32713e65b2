-- The checker: the one bits at the head of a byte, the byte's class, and what a class does to the state.
use Rattle.std.specs.Prelude.{ℕ, cond, ◌==◌, nat_lt}
use Rattle.text.specs.declared.Awaits.{Awaits}
use Rattle.text.specs.declared.Awaits.TheVariants.{Start, One, Two, Three, PastE0, PastEd, PastF0, PastF4, Broken}
use Rattle.text.specs.declared.ByteClass.{ByteClass}
use Rattle.text.specs.declared.ByteClass.TheVariants.{Ascii, Tail80, Tail90, TailA0, Lead2, LeadE0, Lead3, LeadEd, LeadF0, Lead4, LeadF4, Never}

-- the one bits at the head of a byte: none below 10000000, one below 11000000, two below 11100000, and so on
abbrev pub head_ones : ℕ → ℕ
head_ones b =
    cond (nat_lt b 0b10000000) 0
    (cond (nat_lt b 0b11000000) 1
    (cond (nat_lt b 0b11100000) 2
    (cond (nat_lt b 0b11110000) 3
    (cond (nat_lt b 0b11111000) 4
    (cond (nat_lt b 0b11111100) 5
    (cond (nat_lt b 0b11111110) 6
    (cond (nat_lt b 0b11111111) 7 8)))))))

-- the zero bits at the head of a byte: all eight below 1, seven below 10, six below 100, and so on
abbrev pub head_zeros : ℕ → ℕ
head_zeros b =
    cond (nat_lt b 1) 8
    (cond (nat_lt b 0b10) 7
    (cond (nat_lt b 0b100) 6
    (cond (nat_lt b 0b1000) 5
    (cond (nat_lt b 0b10000) 4
    (cond (nat_lt b 0b100000) 3
    (cond (nat_lt b 0b1000000) 2
    (cond (nat_lt b 0b10000000) 1 0)))))))

-- a byte's class, by its range
abbrev pub class_of : ℕ → ByteClass
class_of b =
    cond (nat_lt b 0x80) Ascii
    (cond (nat_lt b 0x90) Tail80
    (cond (nat_lt b 0xA0) Tail90
    (cond (nat_lt b 0xC0) TailA0
    (cond (nat_lt b 0xC2) Never
    (cond (nat_lt b 0xE0) Lead2
    (cond (b == 0xE0) LeadE0
    (cond (b == 0xED) LeadEd
    (cond (nat_lt b 0xF0) Lead3
    (cond (b == 0xF0) LeadF0
    (cond (nat_lt b 0xF4) Lead4
    (cond (b == 0xF4) LeadF4 Never)))))))))))

-- the state behind a character's first byte
abbrev pub begun : ByteClass → Awaits
begun Ascii = Start
begun Tail80 = Broken
begun Tail90 = Broken
begun TailA0 = Broken
begun Lead2 = One
begun LeadE0 = PastE0
begun Lead3 = Two
begun LeadEd = PastEd
begun LeadF0 = PastF0
begun Lead4 = Three
begun LeadF4 = PastF4
begun Never = Broken

-- the state behind a tail byte: x at 80 to 8F, y at 90 to 9F, z at A0 to BF
abbrev pub tails : Awaits → Awaits → Awaits → ByteClass → Awaits
tails x y z Ascii = Broken
tails x y z Tail80 = x
tails x y z Tail90 = y
tails x y z TailA0 = z
tails x y z Lead2 = Broken
tails x y z LeadE0 = Broken
tails x y z Lead3 = Broken
tails x y z LeadEd = Broken
tails x y z LeadF0 = Broken
tails x y z Lead4 = Broken
tails x y z LeadF4 = Broken
tails x y z Never = Broken

-- the state behind a byte of a class
abbrev pub after : Awaits → ByteClass → Awaits
after Start k = begun k
after One k = tails Start Start Start k
after Two k = tails One One One k
after Three k = tails Two Two Two k
after PastE0 k = tails Broken Broken One k
after PastEd k = tails One One Broken k
after PastF0 k = tails Broken Two Two k
after PastF4 k = tails Two Broken Broken k
after Broken k = Broken
