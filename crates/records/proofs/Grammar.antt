-- What the grammar's table has for the sorts of one or a few kinds, and that only a count is followed by as many parts as it says.
-- Assumes nothing.
use mathlib.Core.Path.{◌≡◌, refl, ap, sym, ◌∙◌}
use mathlib.Core.Bool.{Bool, true, false, cond, ◌&&◌, and-eq-true_iff}
use mathlib.Core.List.{List, [], ◌∷◌}
use mathlib.Core.Option.{Option, none, some}
use Prim.Native.Nat.{ℕ}
use lib.Dec.{eqb}
use borrow.Author.Tests.{eqb-true}
use Rattle.lustre.specs.Name.{mem}
use Rattle.lustre.specs.Records as records
use Rattle.lustre.specs.Records.{WordClass, a_count, word_class, class_in}
use Rattle.lustre.specs.Grammar.{Sort, Class, one, list, Shape, parts, each, Entry, entries, choose, entry, node_entry}
use Rattle.lustre.specs.Grammar.{a_project, a_package, a_declaration, a_constant, a_node, a_port, a_name, an_equation, a_type, an_expression, a_field_value}
use Rattle.lustre.specs.Project.{Function, Operator}
use Rattle.records.specs.Places.{shape_in, shape_of}

-- what holds of each sort
abbrev pub of_sorts : (P : Sort → Type 0) → P a_project → P a_package → P a_declaration → P a_constant → P a_node → P a_port → P a_name → P an_equation → P a_type → P an_expression → P a_field_value → (s : Sort) → P s
of_sorts P a b c d e f g h i j k a_project = a
of_sorts P a b c d e f g h i j k a_package = b
of_sorts P a b c d e f g h i j k a_declaration = c
of_sorts P a b c d e f g h i j k a_constant = d
of_sorts P a b c d e f g h i j k a_node = e
of_sorts P a b c d e f g h i j k a_port = f
of_sorts P a b c d e f g h i j k a_name = g
of_sorts P a b c d e f g h i j k an_equation = h
of_sorts P a b c d e f g h i j k a_type = i
of_sorts P a b c d e f g h i j k an_expression = j
of_sorts P a b c d e f g h i j k a_field_value = k

-- the shape of the first entry or of one behind it
abbrev or_else : {c : Class} → ℕ → Entry c → Option Shape → Option Shape
or_else k e o = cond (eqb k e.kind) (some e.shape) o

step : {c : Class} (k : ℕ) (e : Entry c) (es : List (Entry c)) → shape_in (entry k (e ∷ es)) ≡ or_else k e (shape_in (entry k es))
unfolding shape_in entry
step k e es = elim (eqb k e.kind) as (λ b. shape_in (choose b e (entry k es)) ≡ cond b (some e.shape) (shape_in (entry k es))) [ true ↦ refl | false ↦ refl ]

only : {c : Class} (k : ℕ) (e : Entry c) → shape_in (entry k (e ∷ [])) ≡ or_else k e none
unfolding shape_in entry
only k e = step k e []

pub of_list : (s : Sort) (k : ℕ) → shape_of (list s) k ≡ cond (eqb k 3) (some (each (one s))) none
unfolding shape_of entries
of_list s k = only k _

pub of_project : (k : ℕ) → shape_of (one a_project) k ≡ cond (eqb k 1) (some (each (one a_package))) none
unfolding shape_of entries
of_project k = only k _

pub of_package : (k : ℕ) → shape_of (one a_package) k ≡ cond (eqb k 2) (some (parts (list a_declaration ∷ list a_constant ∷ list a_node ∷ []))) none
unfolding shape_of entries
of_package k = only k _

pub of_constant : (k : ℕ) → shape_of (one a_constant) k ≡ cond (eqb k 9) (some (parts (one a_type ∷ one an_expression ∷ []))) none
unfolding shape_of entries
of_constant k = only k _

abbrev node : Shape
node = parts (list a_port ∷ list a_port ∷ list a_port ∷ list an_equation ∷ list a_name ∷ [])

pub of_node : (k : ℕ) → shape_of (one a_node) k ≡ cond (eqb k 10) (some node) (cond (eqb k 11) (some node) (cond (eqb k 12) (some node) none))
unfolding shape_of entries
of_node k = step k _ _ ∙ ap (or_else k (node_entry Function)) (step k _ _ ∙ ap (or_else k (node_entry Operator)) (only k _))

pub of_port : (k : ℕ) → shape_of (one a_port) k ≡ cond (eqb k 7) (some (parts (one a_type ∷ []))) none
unfolding shape_of entries
of_port k = only k _

pub of_name : (k : ℕ) → shape_of (one a_name) k ≡ cond (eqb k 8) (some (parts [])) none
unfolding shape_of entries
of_name k = only k _

pub of_equation : (k : ℕ) → shape_of (one an_equation) k ≡ cond (eqb k 13) (some (parts (list a_name ∷ one an_expression ∷ []))) none
unfolding shape_of entries
of_equation k = only k _

pub of_field_value : (k : ℕ) → shape_of (one a_field_value) k ≡ cond (eqb k 84) (some (parts (one an_expression ∷ []))) none
unfolding shape_of entries
of_field_value k = only k _

-- the classes of each but a declaration, a type and an expression, which are functions of their own
pub ruleset shapes = (of_list, of_project, of_package, of_constant, of_node, of_port, of_name, of_equation, of_field_value)

-- only a count is followed by as many parts as it says: a test of each entry of the table
abbrev is_count : Option WordClass → Bool
is_count none = false
is_count (some records.no_word) = false
is_count (some records.a_name) = false
is_count (some records.a_count) = true
is_count (some records.a_length) = false
is_count (some records.a_truth) = false
is_count (some records.any_word) = false
is_count (some records.a_byte) = false

abbrev counts : Shape → ℕ → Bool
counts (parts cs) k = true
counts (each d) k = is_count (word_class k)

fits : {c : Class} → List (Entry c) → Bool
fits [] = true
fits (e ∷ es) = counts e.shape e.kind && fits es

all_fit : (c : Class) → fits (entries c) ≡ true
unfolding fits entries word_class records.word_classes class_in mem
all_fit (list s) = refl
all_fit (one s) = of_sorts (λ s. fits (entries (one s)) ≡ true) refl refl refl refl refl refl refl refl refl refl refl s

told : (o : Option WordClass) → is_count o ≡ true → o ≡ some a_count
told none t = cc
told (some records.no_word) t = cc
told (some records.a_name) t = cc
told (some records.a_count) t = refl
told (some records.a_length) t = cc
told (some records.a_truth) t = cc
told (some records.any_word) t = cc
told (some records.a_byte) t = cc

found : {c : Class} (k : ℕ) (es : List (Entry c)) (d : Class) → fits es ≡ true → shape_in (entry k es) ≡ some (each d) → word_class k ≡ some a_count
unfolding fits shape_in entry
found k [] d t q = cc
found k (e ∷ es) d t q =
    let b = (and-eq-true_iff (counts e.shape e.kind) (fits es)).0 t in
    by (eqb k e.kind) refl b.0 (sym (step k e es) ∙ q) (found k es d b.1)
  where
    by : (b : Bool) → eqb k e.kind ≡ b → counts e.shape e.kind ≡ true → or_else k e (shape_in (entry k es)) ≡ some (each d) → (shape_in (entry k es) ≡ some (each d) → word_class k ≡ some a_count) → word_class k ≡ some a_count
    by true h t q more = let s : e.shape ≡ each d = (let z : ◌≡◌ {A = Option Shape} (some e.shape) (some (each d)) = rw h at q in cc) in told (word_class k) (rw (s, ← eqb-true k e.kind h) at t)
    by false h t q more = more (rw h at q)

pub each_counts : (c : Class) (k : ℕ) (d : Class) → shape_of c k ≡ some (each d) → word_class k ≡ some a_count
unfolding shape_of
each_counts c k d q = found k (entries c) d (all_fit c) q
