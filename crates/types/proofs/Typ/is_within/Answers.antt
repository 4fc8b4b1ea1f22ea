-- `types::Typ::is_within` meets its contract: an array is of no class, and neither is a name or a tuple. Assumes nothing.
use native.Mathlib.Omega.{arith}
use Rattle.std.proofs.lemmas.Bool.Decides.{nat_tests}
use Rattle.types.proofs.Values.{class_array, class_flat}
use Rattle.types.proofs.Typ.is_within.Goals as goal

pub returns-then-low-self : goal.returns-then-low-self
returns-then-low-self c = λ ρ. let a = c.args in grind (arith, nat_tests, class_array a.low a.high ρ a.self.now, class_flat a.low a.high ρ a.self.now)

pub returns-else-low-self : goal.returns-else-low-self
returns-else-low-self c = λ ρ. let a = c.args in grind (arith, nat_tests, class_array a.low a.high ρ a.self.now, class_flat a.low a.high ρ a.self.now)
