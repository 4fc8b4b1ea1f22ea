-- Tuples that know their number, request 2.8: models and what the definition says of them, proved by computation. Three tables: the numbers
-- of names and members (E0042), the types by position (E0043), and every place where two types meet.
-- Assumes nothing.
use Rattle.std.specs.Prelude.{if◌then◌else◌}
use Prim.Native.String.{String}
use mathlib.Core.Path.{◌≡◌, refl}
use mathlib.Core.Bool.{true}
use mathlib.Core.List.{List, [], ◌∷◌, ◌++◌, map}
use mathlib.Core.Option.{none, some}
use Rattle.lustre.specs.Name.{Name, ◌among◌}
use Rattle.lustre.specs.Types.{Array, Boolean, Int32}
use Rattle.lustre.specs.Expr.{Expr, Map, Eq, Lt, binary, ite, pre, arrow, index, array, tuple, []ᵉ, ◌∷ᵉ◌, []ⁱ}
use Rattle.lustre.specs.Project.{Decl, Node, Project, Function, Operator, Imported, NodeKind, Port}
use Rattle.lustre.specs.Line.{Line, at_type, at_constant, at_node}
use Rattle.lustre.specs.Computes.{computes}
use Rattle.lustre.proofs.Models.{text, ln, E◌at◌, E◌at◌on◌, E◌eq◌, E◌eq◌on◌, Named', ◌of◌, v, call', field', struct', init', when', merge', iterate', num, yes}
use Rattle.lustre.proofs.Models.{alias', record', constant', ◌≔◌, ◌≔≔◌, node', project, Seen, ◌gives◌}

-- ---- the models

-- T is an alias of Int32, L leads to itself and M to L; R is a record
abbrev decls : List Decl
decls = alias' "T" Int32 ∷ record' "R" ("i" of Int32 ∷ []) ∷ []

abbrev unresolvable : List Decl
unresolvable = decls ++ (alias' "L" (Named' "L") ∷ alias' "M" (Named' "L") ∷ [])

-- a node that is imported, so that nothing is said of its outputs
abbrev given : String → List Port → List Port → Node
given f is os = node' Imported f is os [] [] []

-- f has outputs T and Bool, g three of Int32, h none, one one of Int32
abbrev callees : List Node
callees =
    given "f" ("s" of Int32 ∷ []) ("o" of Named' "T" ∷ "q" of Boolean ∷ [])
    ∷ given "g" ("s" of Int32 ∷ []) ("o" of Int32 ∷ "q" of Int32 ∷ "r" of Int32 ∷ [])
    ∷ given "h" [] []
    ∷ node' Function "one" ("s" of Int32 ∷ []) ("o" of Int32 ∷ []) [] ("o" ≔ v "s" ∷ []) [] ∷ []

abbrev f : Expr
f = call' "f" (num 0 ∷ᵉ []ᵉ)

abbrev g : Expr
g = call' "g" (num 0 ∷ᵉ []ᵉ)

abbrev h : Expr
h = call' "h" []ᵉ

abbrev one : Expr
one = call' "one" (num 0 ∷ᵉ []ᵉ)

-- tuples of none, one, two and three items
abbrev none_of : Expr
none_of = tuple []ᵉ

abbrev one_of : Expr
one_of = tuple (num 0 ∷ᵉ []ᵉ)

abbrev two_of : Expr
two_of = tuple (yes ∷ᵉ num 0 ∷ᵉ []ᵉ)

abbrev three_of : Expr
three_of = tuple (yes ∷ᵉ num 0 ∷ᵉ num 0 ∷ᵉ []ᵉ)

-- what can be assigned: a and c of Int32, b of Bool, t of T, i and j of arrays; s and y are inputs
abbrev known : List Port
known = "a" of Int32 ∷ "b" of Boolean ∷ "c" of Int32 ∷ "t" of Named' "T" ∷ "i" of Array 2 Int32 ∷ "j" of Array 3 Int32 ∷ "l" of Named' "L" ∷ "m" of Named' "M" ∷ []

-- those of them that are assigned
abbrev among_known : List Port → List Name → List Port
among_known [] xs = []
among_known (p ∷ ps) xs = if p.0 among xs then p ∷ among_known ps xs else among_known ps xs

-- a node whose one equation defines these names, its outputs where they are known, by e
abbrev row_of : NodeKind → List Decl → List Node → List String → Expr → Project
row_of k ds ns names e = project ds [] (node' k "n" ("s" of Int32 ∷ "y" of Boolean ∷ []) (among_known known (map text names)) [] (names ≔≔ e ∷ []) [] ∷ ns)

abbrev row : List String → Expr → Project
row = row_of Operator decls callees

-- the same with one more callee, w of one input, that has these outputs
abbrev row_with : List Port → List String → Project
row_with os names = row_of Operator unresolvable (given "w" ("s" of Int32 ∷ []) os ∷ callees) names (call' "w" (num 0 ∷ᵉ []ᵉ))

-- the E0008 of the aliases that do not resolve
abbrev loops : List Line
loops = ln 8 at_type 2 none none (some (text "L")) ∷ ln 8 at_type 3 none none (some (text "M")) ∷ []

-- a constant of Int32
abbrev constant_row : Expr → Project
constant_row e = project decls (constant' "k" Int32 e ∷ []) callees

-- ---- E0042

abbrev numbers : List (Seen × Seen)
numbers =
    -- a call with two outputs: two names, three, one, none, an unknown one
    (row ("a" ∷ "b" ∷ []) f gives [])
    ∷ (row ("a" ∷ "b" ∷ "c" ∷ []) f gives E 42 eq 0 ∷ [])
    ∷ (row ("a" ∷ []) f gives E 42 eq 0 ∷ [])
    ∷ (row [] f gives E 42 eq 0 ∷ [])
    ∷ (row ("z" ∷ []) f gives E 20 eq 0 on "z" ∷ E 42 eq 0 ∷ [])
    -- with three
    ∷ (row ("a" ∷ "c" ∷ "t" ∷ []) g gives [])
    ∷ (row ("a" ∷ "c" ∷ []) g gives E 42 eq 0 ∷ [])
    -- a tuple's items, whatever they are: as many as names, more, fewer
    ∷ (row ("a" ∷ "b" ∷ []) two_of gives [])
    ∷ (row ("a" ∷ "b" ∷ "c" ∷ []) two_of gives E 42 eq 0 ∷ [])
    ∷ (row ("a" ∷ []) two_of gives E 42 eq 0 ∷ [])
    ∷ (row ("a" ∷ []) one_of gives [])
    ∷ (row ("b" ∷ []) one_of gives [])
    ∷ (row ("a" ∷ []) none_of gives E 42 eq 0 ∷ [])
    ∷ (row [] none_of gives [])
    ∷ (row [] one_of gives E 42 eq 0 ∷ [])
    ∷ (row ("a" ∷ "b" ∷ []) (tuple (v "lost" ∷ᵉ f ∷ᵉ []ᵉ)) gives [])
    -- a call with no output or one is no tuple, nor is an array of tuples
    ∷ (row [] h gives E 41 eq 0 ∷ [])
    ∷ (row ("a" ∷ []) h gives E 40 eq 0 on "a" ∷ [])
    ∷ (row ("a" ∷ "b" ∷ []) h gives E 41 eq 0 ∷ [])
    ∷ (row [] one gives E 41 eq 0 ∷ [])
    ∷ (row ("a" ∷ []) one gives [])
    ∷ (row ("b" ∷ []) one gives E 40 eq 0 on "b" ∷ [])
    ∷ (row ("a" ∷ "b" ∷ []) one gives E 41 eq 0 ∷ [])
    ∷ (row ("a" ∷ "b" ∷ []) (array (f ∷ᵉ f ∷ᵉ []ᵉ)) gives E 41 eq 0 ∷ [])
    ∷ (row ("a" ∷ []) (array (f ∷ᵉ []ᵉ)) gives E 40 eq 0 on "a" ∷ [])
    ∷ (row ("a" ∷ []) (index (array (f ∷ᵉ []ᵉ)) (num 0)) gives E 42 eq 0 ∷ [])
    -- under pre, arrow, if, when and merge a tuple keeps its number
    ∷ (row ("a" ∷ []) (arrow f (pre f)) gives E 42 eq 0 ∷ [])
    ∷ (row ("a" ∷ []) (ite yes f two_of) gives E 42 eq 0 ∷ [])
    ∷ (row ("a" ∷ []) (when' true "y" f) gives E 42 eq 0 ∷ [])
    ∷ (row ("a" ∷ []) (merge' "y" f f) gives E 42 eq 0 ∷ [])
    -- the callee in force is the last of its name
    ∷ (row_of Operator decls (callees ++ (given "f" ("s" of Int32 ∷ []) ("o" of Int32 ∷ []) ∷ [])) ("a" ∷ "b" ∷ []) f gives ln 1 at_node 5 none none (some (text "f")) ∷ E 41 eq 0 ∷ [])
    -- E0100 and E0102 leave no type; E0101 and E0103 leave it
    ∷ (row ("a" ∷ []) (call' "lost" []ᵉ) gives E 100 at 0 on "lost" ∷ [])
    ∷ (row ("a" ∷ []) (call' "f" []ᵉ) gives E 102 at 0 on "f" ∷ [])
    ∷ (row ("a" ∷ []) (call' "f" (yes ∷ᵉ []ᵉ)) gives E 103 at 0 on "f" ∷ E 42 eq 0 ∷ [])
    ∷ (row_of Function decls (node' Operator "w" [] ("o" of Int32 ∷ "q" of Int32 ∷ []) [] (("o" ∷ "q" ∷ []) ≔≔ two_of ∷ []) [] ∷ []) ("a" ∷ []) (call' "w" []ᵉ) gives E 101 at 0 on "w" ∷ E 42 eq 0 ∷ [])
    ∷ []

-- ---- E0043

abbrev positions : List (Seen × Seen)
positions =
    -- each name in order; one that is not known gets none
    (row ("t" ∷ "b" ∷ []) f gives [])
    ∷ (row ("b" ∷ "a" ∷ []) f gives E 43 eq 0 on "b" ∷ E 43 eq 0 on "a" ∷ [])
    ∷ (row ("a" ∷ "c" ∷ []) f gives E 43 eq 0 on "c" ∷ [])
    ∷ (row ("b" ∷ "z" ∷ []) f gives E 20 eq 0 on "z" ∷ E 43 eq 0 on "b" ∷ [])
    -- an input, and a name at each of its places
    ∷ (row ("y" ∷ "s" ∷ []) f gives E 22 eq 0 on "y" ∷ E 22 eq 0 on "s" ∷ E 43 eq 0 on "y" ∷ E 43 eq 0 on "s" ∷ [])
    ∷ (row ("b" ∷ "b" ∷ "a" ∷ []) g gives E 21 eq 0 on "b" ∷ E 43 eq 0 on "b" ∷ E 43 eq 0 on "b" ∷ [])
    -- not where the numbers differ, nor in a tuple, nor under another operator
    ∷ (row ("b" ∷ "a" ∷ "c" ∷ []) f gives E 42 eq 0 ∷ [])
    ∷ (row ("a" ∷ "b" ∷ []) two_of gives [])
    ∷ (row ("b" ∷ "a" ∷ []) (ite yes f f) gives [])
    ∷ (row ("b" ∷ "a" ∷ []) (arrow f (pre f)) gives [])
    ∷ (row ("b" ∷ "a" ∷ []) (when' true "y" f) gives [])
    ∷ (row ("b" ∷ "a" ∷ []) (merge' "y" f f) gives [])
    ∷ (row ("b" ∷ "a" ∷ []) (index (array (f ∷ᵉ []ᵉ)) (num 0)) gives [])
    -- both types are resolved, inside arrays too; those that do not resolve are compared as written
    ∷ (row_with ("o" of Array 2 (Named' "T") ∷ "q" of Array 2 Int32 ∷ []) ("i" ∷ "j" ∷ []) gives loops ++ (E 43 eq 0 on "j" ∷ []))
    ∷ (row_with ("o" of Named' "L" ∷ "q" of Named' "L" ∷ []) ("l" ∷ "m" ∷ []) gives loops ++ (E 43 eq 0 on "m" ∷ []))
    ∷ (row_with ("o" of Named' "R" ∷ "q" of Named' "lost" ∷ []) ("a" ∷ "b" ∷ []) gives loops ++ (E 43 eq 0 on "a" ∷ E 43 eq 0 on "b" ∷ []))
    -- equal output names count each
    ∷ (row_with ("o" of Int32 ∷ "o" of Boolean ∷ []) ("a" ∷ "a" ∷ []) gives loops ++ (E 21 eq 0 on "a" ∷ E 43 eq 0 on "a" ∷ []))
    -- behind the lines of inference
    ∷ (row ("b" ∷ "a" ∷ []) (call' "f" (yes ∷ᵉ []ᵉ)) gives E 103 at 0 on "f" ∷ E 43 eq 0 on "b" ∷ E 43 eq 0 on "a" ∷ [])
    ∷ []

-- ---- where two types meet

abbrev meetings : List (Seen × Seen)
meetings =
    -- two tuples: E0084, E0091, E0092, E0124, E0131; the same of arrays of them
    (row ("b" ∷ []) (binary Eq f two_of) gives [])
    ∷ (row ("b" ∷ []) (binary Eq f g) gives E 84 at 0 ∷ [])
    ∷ (row ("b" ∷ []) (binary Eq none_of one_of) gives E 84 at 0 ∷ [])
    ∷ (row ("b" ∷ []) (binary Eq none_of none_of) gives [])
    ∷ (row ("b" ∷ []) (binary Eq (array (f ∷ᵉ []ᵉ)) (array (two_of ∷ᵉ []ᵉ))) gives [])
    ∷ (row ("b" ∷ []) (binary Eq (array (f ∷ᵉ []ᵉ)) (array (g ∷ᵉ []ᵉ))) gives E 84 at 0 ∷ [])
    ∷ (row ("a" ∷ "b" ∷ []) (ite yes f two_of) gives [])
    ∷ (row ("a" ∷ "b" ∷ []) (ite yes f g) gives E 91 at 0 ∷ [])
    ∷ (row ("a" ∷ "b" ∷ []) (arrow f two_of) gives [])
    ∷ (row ("a" ∷ "b" ∷ []) (arrow f g) gives E 92 at 0 ∷ [])
    ∷ (row ("a" ∷ "b" ∷ []) (merge' "y" f two_of) gives [])
    ∷ (row ("a" ∷ "b" ∷ []) (merge' "y" f g) gives E 131 at 0 ∷ [])
    ∷ (row ("a" ∷ []) (array (f ∷ᵉ two_of ∷ᵉ []ᵉ)) gives E 40 eq 0 on "a" ∷ [])
    ∷ (row ("a" ∷ []) (array (f ∷ᵉ g ∷ᵉ v "lost" ∷ᵉ []ᵉ)) gives E 124 at 0 ∷ [])
    -- a tuple and another type, of one member too
    ∷ (row ("b" ∷ []) (binary Eq one_of (num 0)) gives E 84 at 0 ∷ [])
    ∷ (row ("b" ∷ []) (binary Eq (num 0) one_of) gives E 84 at 0 ∷ [])
    ∷ (row ("b" ∷ []) (binary Eq none_of h) gives E 84 at 0 ∷ [])
    ∷ (row ("b" ∷ []) (binary Eq one_of one) gives E 84 at 0 ∷ [])
    ∷ (row ("b" ∷ []) (binary Lt f f) gives E 85 at 0 ∷ [])
    ∷ (row ("a" ∷ []) (ite f (num 0) (num 0)) gives E 90 at 0 ∷ [])
    ∷ (row ("a" ∷ []) (ite yes one_of (num 0)) gives E 91 at 0 ∷ [])
    ∷ (row ("a" ∷ []) (call' "one" (one_of ∷ᵉ []ᵉ)) gives E 103 at 0 on "one" ∷ [])
    ∷ (row ("a" ∷ []) (field' "i" (struct' "R" (init' "i" one_of []ⁱ))) gives E 127 at 1 on "i" ∷ [])
    ∷ (row ("a" ∷ []) (iterate' Map "one" (array (one_of ∷ᵉ []ᵉ) ∷ᵉ []ᵉ)) gives E 145 at 0 ∷ [])
    ∷ (constant_row one_of gives ln 5 at_constant 0 none none (some (text "k")) ∷ [])
    ∷ (constant_row f gives ln 5 at_constant 0 none none (some (text "k")) ∷ [])
    -- a tuple is a named type without a record and no array
    ∷ (row ("a" ∷ []) (field' "i" f) gives E 121 at 0 on "i" ∷ [])
    ∷ (row ("a" ∷ []) (field' "i" one_of) gives E 121 at 0 on "i" ∷ [])
    ∷ (row ("a" ∷ []) (index f (num 0)) gives E 110 at 0 ∷ [])
    ∷ []

-- every row holds
pub tuples_hold : map (λ r. r.0) (numbers ++ positions ++ meetings) ≡ map (λ r. r.1) (numbers ++ positions ++ meetings)
unfolding computes
tuples_hold = refl
