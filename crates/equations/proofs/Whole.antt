-- An equation as a whole: where its parts stand, and their notes one after another.
-- Assumes nothing.
use Prim.Native.Nat.{ℕ, ◌+◌, ◌<◌}
use native.Mathlib.Omega.{arith}
use mathlib.Core.Path.{◌≡◌}
use mathlib.Core.Bool.{Bool}
use mathlib.Core.List.{List, ◌++◌, append_assoc}
use lib.ListN.{length, get_or}
use Rattle.lustre.specs.Name.{Name}
use Rattle.lustre.specs.Expr.{size}
use Rattle.lustre.specs.Project.{Node, skeleton, port_names, is_function}
use Rattle.lustre.specs.Line.{Note}
use Rattle.lustre.specs.Resolve.{context}
use Rattle.lustre.specs.Node.{assigns, equation_notes}
use Rattle.standing.specs.Standing.{ExprAt, names_size, equation_size}
use Rattle.standing.specs.Owed.{There}
use Rattle.standing.proofs.Inversions.{expr_record}
use Rattle.standing.proofs.Sizes.{names_sizes}
use Rattle.lines.specs.Lines.{Noted}
use Rattle.lines.specs.declared.Spot.{Spot}
use Rattle.lines.specs.declared.Lines.{Lines}
use Rattle.lines.proofs.Laws.{noted_append}
use Rattle.scope.specs.Names.{NamesHere}
use Rattle.scope.specs.Tables.{records}
use Rattle.equations.specs.Equations.{side_notes, SidesGiven, type_notes, EquationGiven}

-- six lists of notes: the first, the next three together, and the last two together
notes_grouped : (as' bs cs ds es fs : List Note) → as' ++ bs ++ cs ++ ds ++ es ++ fs ≡ as' ++ ((bs ++ cs ++ ds) ++ (es ++ fs))
notes_grouped as' bs cs ds es fs = simp append_assoc

module _ {ks ws sc : List ℕ} {at : ℕ} (g : EquationGiven ks ws sc at) where
  -- the names assigned
  abbrev pub names_given : NamesHere ws (at + 1)
  names_given = record { ks = ks; text = g.scoped.model.text; xs = g.eq.lhs; listed = g.stands.lhs }

  -- where they end
  pub side_start : at + 1 + 1 + get_or ws (at + 1) 0 ≡ at + 1 + names_size g.eq.lhs
  side_start = omega (arith, g.stands.lhs.many, names_sizes g.eq.lhs)

  -- the right-hand side stands behind them
  pub side_at : ExprAt (records g.scoped.model) g.eq.rhs (at + 1 + 1 + get_or ws (at + 1) 0)
  side_at = rw side_start g.stands.rhs

  -- it begins within the records
  pub side_in : at + 1 + 1 + get_or ws (at + 1) 0 < length ks
  side_in = (expr_record (records g.scoped.model) g.eq.rhs (at + 1 + 1 + get_or ws (at + 1) 0) side_at).in_kinds

  -- what the check of it asks for
  abbrev pub side_there : There ks ws (at + 1 + 1 + get_or ws (at + 1) 0)
  side_there = record { text = g.scoped.model.text; e = g.eq.rhs; stands = side_at }

  -- what the check of its type asks for
  abbrev pub sides_given : SidesGiven ks ws sc (at + 1) (at + 1 + 1 + get_or ws (at + 1) 0)
  sides_given = record { left = record { scoped = g.scoped; xs = g.eq.lhs; listed = g.stands.lhs }; e = g.eq.rhs; stands = side_at; shallow = g.shallow }

  -- the record behind it
  pub side_next : {r : ℕ} → r ≡ at + 1 + 1 + get_or ws (at + 1) 0 + size g.eq.rhs → r ≡ at + equation_size g.eq
  side_next e = omega (arith, side_start)

  -- the notes of its names, of its right-hand side and of its type are those of the equation
  pub equation_noted : {q : Spot} (node : Node) (seen : List Name) {f : Bool} → is_function node.kind ≡ f → {l l₁ l₂ l₃ : Lines}
      → Noted g.scoped.model.number q (assigns (port_names g.scoped.env) (port_names node.inputs) seen g.eq.lhs) l l₁
      → Noted g.scoped.model.number q (side_notes f g.eq.rhs) l₁ l₂
      → Noted g.scoped.model.number q (type_notes sides_given f) l₂ l₃
      → Noted g.scoped.model.number q (equation_notes (context (skeleton g.scoped.model.P)) node g.scoped.env seen g.eq) l l₃
  unfolding equation_notes
  equation_noted node seen e a b c = rw (e, notes_grouped) (noted_append a (noted_append b c))
