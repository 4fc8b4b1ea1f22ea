-- The lines of a node: those of its opening, of its equations and of its closing, or the one of an imported node.
-- Assumes nothing.
use Prim.Native.Nat.{ℕ}
use native.Mathlib.Omega.{arith}
use mathlib.Core.Path.{◌≡◌, refl, sym, ◌∙◌, ap, ap₂}
use mathlib.Core.List.{List, [], ◌∷◌, ◌++◌, map, map-append}
use mathlib.Core.Option.{none}
use lib.Dec.{eqb}
use lib.ListN.{get_or}
use Rattle.lustre.specs.Name.{Name}
use Rattle.lustre.specs.Project.{NodeKind, Function, Operator, Imported, Equation, Node, is_function}
use Rattle.lustre.specs.Line.{Note, Line, at_node}
use Rattle.lustre.specs.Resolve.{Scope}
use Rattle.lustre.specs.Grammar.{node_kind}
use Rattle.lustre.specs.Node.{of_node, equations_remarks, opening_notes, closing_notes, body_remarks, imported_remarks, remarks_as, node_remarks, looks}
use Rattle.lustre.specs.Report.{of_place, node_lines}
use Rattle.lustre.specs.Answer.{or_none, place_number}
use Rattle.lines.specs.Lines.{Noted}
use Rattle.lines.specs.declared.Spot.{Spot}
use Rattle.lines.specs.declared.Lines.{Lines}
use Rattle.scope.specs.Tables.{Declared}
use Rattle.scope.specs.Writes.{Reports}
use Rattle.scope.proofs.Writes.{placed, reports_append, reports_noted}
use Rattle.nodes.specs.declared.Opened.{Opened}
use Rattle.nodes.specs.Nodes.{env_of, NodeGiven, ListsAt, InCheck, ImportedHere, imported_notes}

-- a node in whose check its ports and locals are in force
abbrev pub opened : {ks ws sc sc' : List ℕ} {at : ℕ} {r : Opened} (g : NodeGiven ks ws sc at) → Declared g.model (env_of g.n) sc' → ListsAt g.n at r → InCheck ks ws sc' r
opened {at = at} g d ls = record { at = at; node = record { model = g.model; n = g.n; node = g.node; declared = d }; lists = ls }

-- and its records alone
abbrev pub by_records : {ks ws sc : List ℕ} {at : ℕ} → NodeGiven ks ws sc at → ImportedHere ks ws at
by_records g = record { text = g.model.text; n = g.n; stands = g.node.stands; shallow = g.node.shallow }

-- ---- lines

-- the lines of notes of the node itself
lines_placed : (i : ℕ) (ns : List Note) → map (of_place i) (map of_node ns) ≡ map (placed at_node i none) ns
unfolding of_place of_node
lines_placed i [] = refl
lines_placed i (n ∷ ns) = ap (λ (l : List Line). placed at_node i none n ∷ l) (lines_placed i ns)

module _ (Γ : Scope) (i : ℕ) (n : Node) where
  -- what is not imported has the remarks of its body
  as_body : (k : NodeKind) → (k ≡ Imported → ⊥) → remarks_as k Γ n ≡ body_remarks Γ n
  unfolding remarks_as
  as_body Function h = refl
  as_body Operator h = refl
  as_body Imported h = absurd (h refl)

  -- the lines of a node that is not imported
  body_lines : (n.kind ≡ Imported → ⊥)
      → node_lines Γ i n ≡ map (placed at_node i none) (opening_notes n) ++ map (of_place i) (equations_remarks Γ n (env_of n) [] 0 n.equations) ++ map (placed at_node i none) (closing_notes n (env_of n))
  unfolding node_lines node_remarks body_remarks
  body_lines h =
      let starts = map of_node (opening_notes n) in
      let eqs = equations_remarks Γ n (env_of n) [] 0 n.equations in
      let ends = map of_node (closing_notes n (env_of n)) in
      ap (map (of_place i)) (as_body n.kind h)
      ∙ map-append (of_place i) (starts ++ eqs) ends
      ∙ ap₂ ◌++◌ (map-append (of_place i) starts eqs ∙ ap (λ (l : List Line). l ++ map (of_place i) eqs) (lines_placed i (opening_notes n))) (lines_placed i (closing_notes n (env_of n)))

  -- the line of a node with equations, or none
  imported_placed : (qs : List Equation) → map (of_place i) (imported_remarks qs) ≡ map (placed at_node i none) (imported_notes qs)
  unfolding imported_remarks of_place of_node
  imported_placed [] = refl
  imported_placed (q ∷ qs) = refl

  -- the lines of one that is
  imported_lines : n.kind ≡ Imported → node_lines Γ i n ≡ map (placed at_node i none) (imported_notes n.equations)
  unfolding node_lines node_remarks remarks_as
  imported_lines h = ap (λ (k : NodeKind). map (of_place i) (remarks_as k Γ n)) h ∙ imported_placed n.equations

module _ {num : Name → ℕ} {q : Spot} (place : q.place ≡ 4) (equation : q.equation ≡ 18_446_744_073_709_551_615) where
  -- notes of the node itself
  reports_own : (ns : List Note) {l l' : Lines} → Noted num q ns l l' → Reports num (map (placed at_node q.number none) ns) l l'
  unfolding or_none place_number
  reports_own ns d = reports_noted at_node none ns d place refl equation

  module _ (Γ : Scope) (n : Node) where
    -- the lines of opening, equations and closing are those of the node
    pub body_reports : {l l₁ l₂ l₃ : Lines} → (n.kind ≡ Imported → ⊥) → Noted num q (opening_notes n) l l₁
        → Reports num (map (of_place q.number) (equations_remarks Γ n (env_of n) [] 0 n.equations)) l₁ l₂
        → Noted num q (closing_notes n (env_of n)) l₂ l₃ → Reports num (node_lines Γ q.number n) l l₃
    body_reports h a b c =
        let i = q.number in
        let starts = map (placed at_node i none) (opening_notes n) in
        let eqs = map (of_place i) (equations_remarks Γ n (env_of n) [] 0 n.equations) in
        let ends = map (placed at_node i none) (closing_notes n (env_of n)) in
        rw (body_lines Γ i n h) (reports_append num (starts ++ eqs) ends (reports_append num starts eqs (reports_own (opening_notes n) a) b) (reports_own (closing_notes n (env_of n)) c))

    -- the line of an imported node is the node's
    pub imported_reports : {l l' : Lines} → n.kind ≡ Imported → Noted num q (imported_notes n.equations) l l' → Reports num (node_lines Γ q.number n) l l'
    imported_reports h a = rw (imported_lines Γ q.number n h) (reports_own (imported_notes n.equations) a)

-- an imported node is not searched
pub imported_looks : (n : Node) → n.kind ≡ Imported → 0 ≡ looks n.kind n.equations
unfolding looks
imported_looks n h = rw h

-- ---- kinds

-- a function has kind 10
kind_function : (k : NodeKind) → is_function k ≡ eqb (node_kind k) 10
unfolding is_function
kind_function Function = refl
kind_function Operator = refl
kind_function Imported = refl

-- an imported node has kind 12
kind_imported : (k : NodeKind) → node_kind k ≡ 12 → k ≡ Imported
kind_imported Function h = absurd (omega (arith, h))
kind_imported Operator h = absurd (omega (arith, h))
kind_imported Imported h = refl

-- the kind of a node's record says whether it is a function or imported
module _ {ks ws sc : List ℕ} {at : ℕ} (g : NodeGiven ks ws sc at) where
  pub is_function_here : is_function g.n.kind ≡ eqb (get_or ks at 0) 10
  is_function_here = kind_function g.n.kind ∙ ap (λ (k : ℕ). eqb k 10) (sym g.node.stands.head.kind)

  pub is_imported : get_or ks at 0 ≡ 12 → g.n.kind ≡ Imported
  is_imported h = kind_imported g.n.kind (sym g.node.stands.head.kind ∙ h)

  pub not_imported : (get_or ks at 0 ≡ 12 → ⊥) → g.n.kind ≡ Imported → ⊥
  not_imported h e = h (g.node.stands.head.kind ∙ ap node_kind e)
