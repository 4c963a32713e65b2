-- What is told of a fault: its word, its place, and the layer that it arose in, however far it was carried.
use Rattle.fault.specs.Replies.{byte_word, store_word, server_word, session_word}
use Rattle.fault.specs.declared.Layer.TheVariants as layer
use Rattle.fault.specs.declared.ByteFault.{ByteFault}
use Rattle.fault.specs.declared.StoreFault.{StoreFault}
use Rattle.fault.specs.declared.StoreFault.TheVariants as store
use Rattle.fault.specs.declared.ServerFault.{ServerFault}
use Rattle.fault.specs.declared.ServerFault.TheVariants as server
use Rattle.fault.specs.declared.SessionFault.{SessionFault}
use Rattle.fault.specs.declared.SessionFault.TheVariants as session
use Rattle.fault.specs.declared.Report.{Report}

abbrev pub byte_report : ByteFault → Report
byte_report f = record { word = byte_word f.word; place = f.place; layer = layer.Bytes }

abbrev pub store_report : StoreFault → Report
store_report (store.Byte f) = byte_report f
store_report (store.Store w p) = record { word = store_word w; place = p; layer = layer.Stores }

abbrev pub server_report : ServerFault → Report
server_report (server.Byte f) = byte_report f
server_report (server.Server w p) = record { word = server_word w; place = p; layer = layer.Servers }

abbrev pub session_report : SessionFault → Report
session_report (session.Byte f) = byte_report f
session_report (session.Store f) = store_report f
session_report (session.Server f) = server_report f
session_report (session.Session w p) = record { word = session_word w; place = p; layer = layer.Session }
