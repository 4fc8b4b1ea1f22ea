-- `check_project`, lib.rs 134, and `check_constants`, lib.rs 262: the report of a project, and the number of edges followed.
-- Assumes nothing: these are definitions.
use Rattle.std.specs.Prelude.{ℕ, suc, ◌+◌, true, List, [], ◌∷◌, ◌++◌, map, if◌then◌else◌}
use Rattle.std.proofs.Math.Option.{Option, none, some}
use Rattle.lustre.specs.Name.{Name, ◌among◌, lookup, set_of}
use Rattle.lustre.specs.Types.{Ty, Named}
use Rattle.lustre.specs.Expr.{contains_temporal}
use Rattle.lustre.specs.Project.{Decl, Alias, Record, Enum, Constant, Node, Heading, PackageOf, Project, Skeleton, decl_name, skeleton, all_types, all_constants, all_nodes}
use Rattle.lustre.specs.Line.{Note, Remark, Line, Place, at_package, at_enum, at_type, at_constant, at_node, bare, about}
use Rattle.lustre.specs.Resolve.{Scope, context, try_resolve, compatible}
use Rattle.lustre.specs.Infer.{infer}
use Rattle.lustre.specs.Node.{node_remarks, looks}

unfoldable pub line : Place → ℕ → Note → Line
line p i m = record { place = p; number = i; remark = record { equation = none; note = m } }

-- the types with their packages' numbers
unfoldable pub tagged : {N : Type 0} → ℕ → List (PackageOf N) → List (ℕ × Decl)
tagged i [] = []
tagged i (p ∷ ps) = map (λ d. (i, d)) p.types ++ tagged (suc i) ps

unfoldable pub variants_in : Decl → List Name
variants_in (Alias x t) = []
variants_in (Record x fs) = []
variants_in (Enum x vs) = vs

-- E0007, at the enum, numbered among the types
unfoldable pub repeated_variants : ℕ → List Name → List Name → List Line
repeated_variants i seen [] = []
repeated_variants i seen (v ∷ vs) = (if v among seen then line at_enum i (about 7 v) ∷ [] else []) ++ repeated_variants i (v ∷ seen) vs

-- lib.rs 138: E0006 and E0007, type by type, with the names and the variants that stand before
unfoldable pub type_lines : ℕ → List Name → List Name → List (ℕ × Decl) → List Line
type_lines i names variants [] = []
type_lines i names variants (d ∷ ds) =
    (if decl_name d.1 among names then line at_package d.0 (about 6 (decl_name d.1)) ∷ [] else [])
    ++ repeated_variants i variants (variants_in d.1)
    ++ type_lines (suc i) (decl_name d.1 ∷ names) (variants_in d.1 ++ variants) ds

-- the names of the aliases with their numbers among the types, in order
unfoldable pub alias_numbers : ℕ → List Decl → List (Name × ℕ)
alias_numbers i [] = []
alias_numbers i (Alias x t ∷ ds) = (x, i) ∷ alias_numbers (suc i) ds
alias_numbers i (Record x fs ∷ ds) = alias_numbers (suc i) ds
alias_numbers i (Enum x vs ∷ ds) = alias_numbers (suc i) ds

-- one alias that does not resolve, at the declaration in force
unfoldable pub alias_line : Name → Option Ty → Option ℕ → List Line
alias_line a (some t) o = []
alias_line a none none = []
alias_line a none (some i) = line at_type i (about 8 a) ∷ []

-- lib.rs 163: E0008, in name order
unfoldable pub alias_lines : Scope → List (Name × ℕ) → List Name → List Line
alias_lines Γ numbers [] = []
alias_lines Γ numbers (a ∷ as') = alias_line a (try_resolve Γ.alias 65 [] (Named a)) (lookup a numbers) ++ alias_lines Γ numbers as'

-- lib.rs 174: E0001, at the later node
unfoldable pub node_name_lines : ℕ → List Name → List Heading → List Line
node_name_lines i seen [] = []
node_name_lines i seen (n ∷ ns) = (if n.name among seen then line at_node i (about 1 n.name) ∷ [] else []) ++ node_name_lines (suc i) (n.name ∷ seen) ns

-- E0005
unfoldable pub value_notes : Scope → Constant → Option Ty → List Note
value_notes Γ c none = []
value_notes Γ c (some t) = if compatible Γ.alias c.type t then [] else about 5 c.name ∷ []

-- lib.rs 295 to 325: E0004, then typing as in a function, then E0005
unfoldable pub constant_notes : Scope → Constant → List Note
constant_notes Γ c =
    let typed = infer Γ true 0 c.value (some c.type) in
    (if contains_temporal c.value then bare 4 ∷ [] else [])
    ++ typed.1
    ++ value_notes Γ c typed.0

-- lib.rs 285: E0003, or the constant's own notes
unfoldable pub constant_lines : Scope → ℕ → List Name → List Constant → List Line
constant_lines Γ i seen [] = []
constant_lines Γ i seen (c ∷ cs) =
    map (line at_constant i) (if c.name among seen then about 3 c.name ∷ [] else constant_notes Γ c)
    ++ constant_lines Γ (suc i) (c.name ∷ seen) cs

-- what comes before the nodes' own lines: nothing in it looks inside a node
unfoldable pub opening : Skeleton → List Line
opening s =
    let numbers = alias_numbers 0 (all_types s) in
    type_lines 0 [] [] (tagged 0 s)
    ++ alias_lines (context s) numbers (set_of (map (λ e. e.0) numbers))
    ++ node_name_lines 0 [] (all_nodes s)
    ++ constant_lines (context s) 0 [] (all_constants s)

unfoldable pub of_place : ℕ → Remark → Line
of_place i r = record { place = at_node; number = i; remark = r }

unfoldable pub node_lines : Scope → ℕ → Node → List Line
node_lines Γ i n = map (of_place i) (node_remarks Γ n)

unfoldable pub nodes_lines : Scope → ℕ → List Node → List Line
nodes_lines Γ i [] = []
nodes_lines Γ i (n ∷ ns) = node_lines Γ i n ++ nodes_lines Γ (suc i) ns

unfoldable pub report : Project → List Line
report P = opening (skeleton P) ++ nodes_lines (context (skeleton P)) 0 (all_nodes P)

unfoldable pub looks_all : List Node → ℕ
looks_all [] = 0
looks_all (n ∷ ns) = looks n.kind n.equations + looks_all ns

-- the number of edges followed, over all operators and functions
unfoldable pub followed : Project → ℕ
followed P = looks_all (all_nodes P)
