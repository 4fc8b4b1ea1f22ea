-- `infer::port_type` meets its contract: the type stands behind the port's record. Assumes nothing.
use native.Mathlib.Omega.{arith}
use Rattle.rules.proofs.Places.{type_in, type_there}
use Rattle.infer.proofs.port_type.Goals as goal

pub overflow_add-port : goal.overflow_add-port
overflow_add-port c = omega (arith, type_in c.requires.typed)

pub read_type-requires : goal.read_type-requires
read_type-requires c = type_there c.requires.typed
