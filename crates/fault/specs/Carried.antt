-- A lower fault carried whole in an upper one.
use Rattle.fault.specs.declared.ByteFault.{ByteFault}
use Rattle.fault.specs.declared.StoreFault.{StoreFault}
use Rattle.fault.specs.declared.StoreFault.TheVariants as store
use Rattle.fault.specs.declared.ServerFault.{ServerFault}
use Rattle.fault.specs.declared.ServerFault.TheVariants as server
use Rattle.fault.specs.declared.SessionFault.{SessionFault}
use Rattle.fault.specs.declared.SessionFault.TheVariants as session

abbrev pub byte_in_store : ByteFault → StoreFault
byte_in_store f = store.Byte f

abbrev pub byte_in_server : ByteFault → ServerFault
byte_in_server f = server.Byte f

abbrev pub byte_in_session : ByteFault → SessionFault
byte_in_session f = session.Byte f

abbrev pub store_in_session : StoreFault → SessionFault
store_in_session f = session.Store f

abbrev pub server_in_session : ServerFault → SessionFault
server_in_session f = session.Server f
