-- The grammar by positions, in the grain of the code: a walk over the records with a list of the parts that are still wanted, each a
-- class at a level, that keeps the first record too deep. What the contracts of this crate cite.
-- Assumes nothing: these are definitions.
use Rattle.std.specs.Prelude.{ℕ, ◌+◌, ◌≤◌, ◌≡◌, List, [], ◌∷◌, ◌++◌, map, length, drop, if◌then◌else◌, Option, None, Some, Result, Ok, Err}
use Rattle.std.proofs.Math.Option as maybe
use Rattle.lustre.specs.Records.{Rec, spell}
use Rattle.lustre.specs.Grammar.{Sort, Class, one, list, Shape, follow, Entry, entries, entry}
use Rattle.lustre.specs.Grammar.{a_project, a_package, a_declaration, a_constant, a_node, a_port, a_name, an_equation, a_type, an_expression, a_field_value}
use Rattle.lustre.specs.Levels.{inner_of, too_deep}
use Rattle.records.specs.declared.Reached.{Reached}
use Rattle.records.specs.declared.Want as Coded_want
use Rattle.records.specs.declared.tables.Sort as Coded
use Rattle.records.specs.declared.tables.Sort.TheVariants as sort
use Rattle.records.specs.declared.tables.Class as Coded_class
use Rattle.records.specs.declared.tables.Class.TheVariants as class

-- the grammar's sorts and classes, by the code's
abbrev pub sort_of : Coded.Sort → Sort
sort_of sort.Project = a_project
sort_of sort.Package = a_package
sort_of sort.Declaration = a_declaration
sort_of sort.Constant = a_constant
sort_of sort.Node = a_node
sort_of sort.Port = a_port
sort_of sort.Name = a_name
sort_of sort.Equation = an_equation
sort_of sort.Type = a_type
sort_of sort.Expression = an_expression
sort_of sort.FieldValue = a_field_value

abbrev pub class_of : Coded_class.Class → Class
class_of (class.One s) = one (sort_of s)
class_of (class.List s) = list (sort_of s)

-- what is wanted: a class at a level
abbrev pub Want : Type 0
Want = Class × ℕ

abbrev pub wanted : Coded_want.Want → Want
wanted w = (class_of w.class, w.level)

-- the first record too deep, after one more at a place
unfoldable pub mark : Want → ℕ → Option ℕ → Option ℕ
mark w at None = if too_deep w.0 w.1 then Some at else None
mark w at (Some deep) = Some deep

unfoldable pub shape_in : {c : Class} → maybe.Option (Entry c) → maybe.Option Shape
shape_in maybe.none = maybe.none
shape_in (maybe.some e) = maybe.some e.shape

unfoldable pub shape_of : Class → ℕ → maybe.Option Shape
shape_of c k = shape_in (entry k (entries c))

-- where a walk ends, with the first record too deep, or the record that cannot stand where it is
abbrev pub Walk : Type 0
Walk = Result Reached ℕ

unfoldable pub on_shape : maybe.Option Shape → Walk → (Shape → Walk) → Walk
on_shape maybe.none r f = r
on_shape (maybe.some s) r f = f s

-- what a record of a class at a level asks to follow it
abbrev pub wants : Want → List Class → List Want
wants w cs = map (inner_of w.0 w.1) cs

-- where the records from a place on stop to be what is wanted, or where that ends, with the first record too deep
unfoldable pub ends : List Want → ℕ → Option ℕ → List Rec → Walk
ends [] at deep [] = Ok (record { next = at; deep = deep })
ends (w ∷ ws) at deep [] = Err at
ends [] at deep (r ∷ rs) = Ok (record { next = at; deep = deep })
ends (w ∷ ws) at deep (r ∷ rs) = on_shape (shape_of w.0 r.kind) (Err at) (λ s. ends (wants w (follow s r.number) ++ ws) (at + 1) (mark w at deep) rs)

-- the same from a position of kinds and words; texts play no part
unfoldable pub go : List ℕ → List ℕ → List Want → ℕ → Option ℕ → Walk
go ks ws st at deep = ends st at deep (drop at (spell (λ n. []) ks ws))

abbrev pub after : List ℕ → List ℕ → List Want → Walk → Walk
after ks ws st (Ok r) = go ks ws st r.next r.deep
after ks ws st (Err p) = Err p

-- the walk of a call that moved to r and says which record cannot stand, if one cannot
abbrev pub walk_to : Reached → Result (Unit {0}) ℕ → Walk
walk_to r (Ok u) = Ok r
walk_to r (Err p) = Err p

abbrev pub EndsIn : ℕ → ℕ → Walk → Type 0
EndsIn from to (Ok r) = (from ≤ r.next) × (r.next ≤ to)
EndsIn from to (Err p) = Unit {0}

-- what a call that was to pass the wants `now` answers, whatever is still pending
pub record Passed (ks ws : List ℕ) (now : List Want) (at : ℕ) (deep : Option ℕ) (from : ℕ) (r : Walk) : Type 0 where
  pub place : (st : List Want) → go ks ws (now ++ st) at deep ≡ after ks ws st r
  pub within : EndsIn from (length ks) r
