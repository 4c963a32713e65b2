-- The table of replies: each word with its number and its name, and each layer with its number.
use Rattle.std.specs.Prelude.{ℕ, List, codes}
use Rattle.fault.specs.declared.Word.{Word}
use Rattle.fault.specs.declared.Word.TheVariants as word
use Rattle.fault.specs.declared.Layer.{Layer}
use Rattle.fault.specs.declared.Layer.TheVariants as layer
use Rattle.fault.specs.declared.ByteWord.{ByteWord}
use Rattle.fault.specs.declared.ByteWord.TheVariants as byte
use Rattle.fault.specs.declared.StoreWord.{StoreWord}
use Rattle.fault.specs.declared.StoreWord.TheVariants as store
use Rattle.fault.specs.declared.ServerWord.{ServerWord}
use Rattle.fault.specs.declared.ServerWord.TheVariants as server
use Rattle.fault.specs.declared.SessionWord.{SessionWord}
use Rattle.fault.specs.declared.SessionWord.TheVariants as session

abbrev pub number_of : Word → ℕ
number_of word.Served = 0
number_of word.Short = 1
number_of word.Tag = 2
number_of word.Zero = 3
number_of word.Garbled = 4
number_of word.Gone = 5
number_of word.Stale = 6
number_of word.Tight = 7
number_of word.Crowded = 8
number_of word.NumberedOut = 9
number_of word.Declined = 10
number_of word.Deep = 11
number_of word.Unopened = 12
number_of word.Sheet = 13
number_of word.SheetShort = 14
number_of word.Name = 15
number_of word.Raw = 16
number_of word.Hosts = 17

abbrev pub name_of : Word → List ℕ
name_of word.Served = codes "Served"
name_of word.Short = codes "Short"
name_of word.Tag = codes "Tag"
name_of word.Zero = codes "Zero"
name_of word.Garbled = codes "Garbled"
name_of word.Gone = codes "Gone"
name_of word.Stale = codes "Stale"
name_of word.Tight = codes "Tight"
name_of word.Crowded = codes "Crowded"
name_of word.NumberedOut = codes "Numbered out"
name_of word.Declined = codes "Declined"
name_of word.Deep = codes "Deep"
name_of word.Unopened = codes "Unopened"
name_of word.Sheet = codes "Sheet"
name_of word.SheetShort = codes "Sheet short"
name_of word.Name = codes "Name"
name_of word.Raw = codes "Raw"
name_of word.Hosts = codes "Host's"

abbrev pub layer_number : Layer → ℕ
layer_number layer.Bytes = 1
layer_number layer.Stores = 2
layer_number layer.Servers = 3
layer_number layer.Session = 4

-- the words of each layer
abbrev pub byte_word : ByteWord → Word
byte_word byte.Short = word.Short
byte_word byte.Tag = word.Tag
byte_word byte.Zero = word.Zero
byte_word byte.Garbled = word.Garbled
byte_word byte.Deep = word.Deep
byte_word byte.Sheet = word.Sheet

abbrev pub store_word : StoreWord → Word
store_word store.Gone = word.Gone
store_word store.Crowded = word.Crowded
store_word store.NumberedOut = word.NumberedOut
store_word store.Unopened = word.Unopened

abbrev pub server_word : ServerWord → Word
server_word server.Garbled = word.Garbled
server_word server.Stale = word.Stale
server_word server.Tight = word.Tight
server_word server.NumberedOut = word.NumberedOut
server_word server.Declined = word.Declined
server_word server.Unopened = word.Unopened
server_word server.Name = word.Name
server_word server.Raw = word.Raw
server_word server.Hosts = word.Hosts

abbrev pub session_word : SessionWord → Word
session_word session.Tight = word.Tight
session_word session.SheetShort = word.SheetShort
