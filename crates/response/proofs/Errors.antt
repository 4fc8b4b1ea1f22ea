-- Laws of the search for an error among lines.
-- Assumes nothing.
use mathlib.Core.Path.{◌≡◌, refl}
use mathlib.Core.Bool.{Bool, true, false, not, ◌||◌}
use mathlib.Core.List.{List, [], ◌∷◌}
use lib.Dec.{eqb}
use Rattle.std.specs.List.{list_any}
use Rattle.lustre.specs.Line.{Error, Warning, severity}
use Rattle.lustre.specs.declared.Line.{Line}
use Rattle.response.specs.Response.{is_error, any_error}

-- any code but W0051's is an error's
code_error : (c : Bool) → is_error (elim c [ true ↦ Warning | false ↦ Error ]) ≡ not c
unfolding is_error
code_error true = refl
code_error false = refl

-- so there is an error where some code is another
pub error_among : (ls : List Line) → any_error ls ≡ list_any (λ l. not (eqb l.code 51)) ls
unfolding any_error severity
error_among [] = refl
error_among (l ∷ ls) = (λ i. code_error (eqb l.code 51) i || error_among ls i)
