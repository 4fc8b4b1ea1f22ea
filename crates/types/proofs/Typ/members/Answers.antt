-- `types::Typ::members` meets its contract: an array is no tuple. Assumes nothing.
use native.Mathlib.Omega.{arith}
use Rattle.std.proofs.lemmas.Bool.Decides.{nat_tests}
use Rattle.types.proofs.Values.{members_array, members_flat}
use Rattle.types.proofs.Typ.members.Goals as goal

pub returns-then-self-eq-TUPLE : goal.returns-then-self-eq-TUPLE
returns-then-self-eq-TUPLE c = λ ρ. grind (arith, nat_tests, members_flat ρ c.args.self.now)

pub returns-else-self-eq0 : goal.returns-else-self-eq0
returns-else-self-eq0 c = λ ρ. grind (arith, nat_tests, members_array ρ c.args.self.now, members_flat ρ c.args.self.now)
