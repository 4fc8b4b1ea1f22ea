-- Levels of types and expressions: document 01, 'the top of a type or expression, a cast's type too, is at level 1, its operands at 2,
-- and so on down; lists and 84 add none', refusal 6.
-- Assumes nothing: these are definitions.
use Rattle.std.specs.Prelude.{ℕ, ◌+◌, Bool, true, false, List, [], ◌∷◌, ◌++◌, map, ltb}
use Rattle.std.proofs.Math.Option.{Option, none, some}
use Rattle.lustre.specs.Records.{Rec}
use Rattle.lustre.specs.Grammar.{Sort, Class, one, list, follow, entries, entry}
use Rattle.lustre.specs.Grammar.{a-project, a-package, a-declaration, a-constant, a-node, a-port, a-name, an-equation, a-type, an-expression, a-field-value}

-- the level of a sort's part behind a record of another sort at a level: a type in a type and an expression in an expression are one
-- deeper, a field value's expression is as deep as the field value, and any other starts anew
unfoldable pub inner : Sort → Sort → ℕ → ℕ
inner a-type s l = l + 1
inner an-expression a-type l = 1
inner an-expression a-project l = l + 1
inner an-expression a-package l = l + 1
inner an-expression a-declaration l = l + 1
inner an-expression a-constant l = l + 1
inner an-expression a-node l = l + 1
inner an-expression a-port l = l + 1
inner an-expression a-name l = l + 1
inner an-expression an-equation l = l + 1
inner an-expression an-expression l = l + 1
inner an-expression a-field-value l = l + 1
inner a-field-value s l = l
inner a-project s l = 1
inner a-package s l = 1
inner a-declaration s l = 1
inner a-constant s l = 1
inner a-node s l = 1
inner a-port s l = 1
inner a-name s l = 1
inner an-equation s l = 1

abbrev pub sort-of : Class → Sort
sort-of (one s) = s
sort-of (list s) = s

-- a list is at its items' level
unfoldable pub inner_of : Class → ℕ → Class → Class × ℕ
inner_of (one s) l c = (c, inner s (sort-of c) l)
inner_of (list s) l c = (c, l)

-- a type at more than 68 levels, an expression at more than 60
unfoldable pub too-deep : Class → ℕ → Bool
too-deep (list s) l = false
too-deep (one a-type) l = ltb 68 l
too-deep (one an-expression) l = ltb 60 l
too-deep (one a-project) l = false
too-deep (one a-package) l = false
too-deep (one a-declaration) l = false
too-deep (one a-constant) l = false
too-deep (one a-node) l = false
too-deep (one a-port) l = false
too-deep (one a-name) l = false
too-deep (one an-equation) l = false
too-deep (one a-field-value) l = false

-- the first record too deep, among records of these classes at these levels from a place on
unfoldable pub deep-record : List (Class × ℕ) → ℕ → List Rec → Option ℕ
deep-record ws at [] = none
deep-record [] at (r ∷ rs) = none
deep-record (w ∷ ws) at (r ∷ rs) = elim (too-deep w.0 w.1) [
  | true ↦ some at
  | false ↦ elim (entry r.kind (entries w.0)) [
    | none ↦ none
    | some e ↦ deep-record (map (inner_of w.0 w.1) (follow e.shape r.number) ++ ws) (at + 1) rs
  ]
]
