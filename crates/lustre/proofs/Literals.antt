-- The types of integer literals, request 2.10: every bound of every width and sign under every sort of hint, and what E0095 leaves out
-- of the lines around it. Two tables, each proved by one statement.
-- Assumes nothing.
use Rattle.std.specs.Prelude.{if◌then◌else◌}
use Prim.Native.Nat.{ℕ}
use Prim.Native.String.{String}
use mathlib.Core.Path.{◌≡◌, refl}
use mathlib.Core.Bool.{true}
use mathlib.Core.List.{List, [], ◌∷◌, ◌++◌, map}
use mathlib.Core.Option.{Option, none, some}
use lib.IntN.{ℤ, pos, neg_ℤ}
use mir.Syntax.{w64}
use mir.Val.{of_z}
use Rattle.lustre.specs.Name.{◌is◌, lookup}
use Rattle.lustre.specs.Types.{Ty, Array, Tuple, Boolean, Int8, Int16, Int32, Int64, Uint8, Uint16, Uint32, Uint64, Float32, Float64, Character, unit_type}
use Rattle.lustre.specs.Expr.{Expr, Map, Fold, Not, Neg, Eq, Lt, Add, unary, binary, ite, pre, arrow, index, tuple, array, cast, []ᵉ, ◌∷ᵉ◌, []ⁱ}
use Rattle.lustre.specs.Project.{Function}
use Rattle.lustre.specs.Line.{Out, at_constant, plain}
use Rattle.lustre.specs.Resolve.{Scope}
use Rattle.lustre.specs.Infer.{infer}
use Rattle.lustre.specs.Computes.{computes}
use Rattle.lustre.proofs.Models.{text, v, call', struct', init', when', merge', iterate_from', num, minus, ◌≔≔◌, ◌of◌, alone, Named', Small, Point}
use Rattle.lustre.proofs.Models.{ln, E◌at◌, E◌at◌on◌, operator, constant, Seen, ◌gives◌}

-- ---- the bounds

-- the integer types
abbrev integers : List Ty
integers = Int8 ∷ Int16 ∷ Int32 ∷ Int64 ∷ Uint8 ∷ Uint16 ∷ Uint32 ∷ Uint64 ∷ []

-- an alias of each of them
abbrev aliases : List Ty
aliases = map Named' ("i8" ∷ "i16" ∷ "i32" ∷ "i64" ∷ "u8" ∷ "u16" ∷ "u32" ∷ "u64" ∷ [])

-- hints that are no integer type: none, other basic types, tuple and unit, arrays, aliases of these; names that resolve to no basic type or
-- do not resolve
abbrev others : List (Option Ty)
others =
    none
    ∷ map some
    (Float32 ∷ Float64 ∷ Boolean ∷ Character ∷ Tuple 2 ∷ unit_type ∷ Array 2 Int64 ∷ Named' "real" ∷ Named' "truth" ∷ Named' "pair" ∷ Named' "point" ∷ Named' "spot" ∷ Named' "circle" ∷ [])

-- the aliases; `circle` leads to itself, `spot` to `point`, which is none
abbrev scope : Scope
scope = record {
  alias = λ y. lookup y
      ((text "i8", Int8) ∷ (text "i16", Int16) ∷ (text "i32", Int32) ∷ (text "i64", Int64)
      ∷ (text "u8", Uint8) ∷ (text "u16", Uint16) ∷ (text "u32", Uint32) ∷ (text "u64", Uint64)
      ∷ (text "real", Float32) ∷ (text "truth", Boolean) ∷ (text "pair", Array 2 Int64)
      ∷ (text "spot", Named' "point") ∷ (text "circle", Named' "circle") ∷ []);
  fields = λ y. none;
  variant = λ y. none;
  constant = λ y. none;
  node = λ y. none;
  port = λ y. none;
}

-- what a letter of a row stands for: h the hint t, i Int32, x no type and E0095 at step 5
abbrev told : ℕ → Ty → Out Ty
told c t = if (c ∷ []) is text "h" then (some t, []) else if (c ∷ []) is text "i" then (some Int32, []) else (none, plain 5 95 ∷ [])

-- a letter for each integer type
abbrev own : List ℕ → List Ty → List (Out Ty)
own [] ts = []
own (c ∷ cs) [] = []
own (c ∷ cs) (t ∷ ts) = told c t ∷ own cs ts

-- one letter for all other hints
abbrev other : List ℕ → List (Out Ty)
other [] = []
other (c ∷ cs) = map (λ h. told c Int32) others

-- what an expression at step 5 gets under each integer type, under each alias of one, and under each other hint
abbrev typed : Expr → List (Out Ty)
typed e = map (infer scope true 5 e) (map some integers ++ map some aliases ++ others)

-- the same by letters; an alias of an integer type is as that type
abbrev letters : String → String → String → List (Out Ty)
letters s u o = own (text s ++ text u) integers ++ own (text s ++ text u) integers ++ other (text o)

-- an integer as a word
abbrev word : ℤ → Expr
word n = num (of_z w64 n)

-- the same as a minus directly on a word
abbrev negated : ℤ → Expr
negated n = unary Neg (num (of_z w64 (neg_ℤ n)))

-- the rows of an integer: Int8 to Int64, Uint8 to Uint64, other hints
abbrev rows : ℤ → String → String → String → List (List (Out Ty) × List (Out Ty))
rows n s u o = (typed (word n), letters s u o) ∷ (typed (negated n), letters s u o) ∷ []

-- −n
abbrev below : ℕ → ℤ
below n = neg_ℤ (pos n)

-- −2^63 is a word alone, and 2^63 a minus on it
abbrev pub bounds : List (List (Out Ty) × List (Out Ty))
bounds =
    (typed (word (below 9_223_372_036_854_775_808)), letters "xxxh" "xxxx" "x")
    ∷ (rows (below 9_223_372_036_854_775_807) "xxxh" "xxxx" "x"
    ++ rows (below 2_147_483_649) "xxxh" "xxxx" "x"
    ++ rows (below 2_147_483_648) "iihh" "iiii" "i"
    ++ rows (below 32_769) "iihh" "iiii" "i"
    ++ rows (below 32_768) "ihhh" "iiii" "i"
    ++ rows (below 129) "ihhh" "iiii" "i"
    ++ rows (below 128) "hhhh" "iiii" "i"
    ++ rows (below 1) "hhhh" "iiii" "i"
    ++ rows (pos 0) "hhhh" "hhhh" "i"
    ++ rows (pos 127) "hhhh" "hhhh" "i"
    ++ rows (pos 128) "ihhh" "hhhh" "i"
    ++ rows (pos 255) "ihhh" "hhhh" "i"
    ++ rows (pos 256) "ihhh" "ihhh" "i"
    ++ rows (pos 32_767) "ihhh" "ihhh" "i"
    ++ rows (pos 32_768) "iihh" "ihhh" "i"
    ++ rows (pos 65_535) "iihh" "ihhh" "i"
    ++ rows (pos 65_536) "iihh" "iihh" "i"
    ++ rows (pos 2_147_483_647) "iihh" "iihh" "i"
    ++ rows (pos 2_147_483_648) "xxxh" "xxhh" "x"
    ++ rows (pos 3_000_000_000) "xxxh" "xxhh" "x"
    ++ rows (pos 4_294_967_295) "xxxh" "xxhh" "x"
    ++ rows (pos 4_294_967_296) "xxxh" "xxxh" "x"
    ++ rows (pos 9_223_372_036_854_775_807) "xxxh" "xxxh" "x"
    ++ ((typed (negated (pos 9_223_372_036_854_775_808)), letters "xxxx" "xxxh" "x") ∷ []))

-- every row holds
pub bounds_hold : map (λ r. r.0) bounds ≡ map (λ r. r.1) bounds
unfolding computes
bounds_hold = refl

-- ---- around an integer without a type

-- 3,000,000,000
abbrev large : Expr
large = num 3_000_000_000

-- rows of what typing meets
abbrev met : List (Seen × Seen)
met =
    -- no E0040, no E0041, no E0005 follows
    (operator Int32 large gives E 95 at 0 ∷ [])
    ∷ (operator Float64 large gives E 95 at 0 ∷ [])
    ∷ (alone Function [] ("a" of Int8 ∷ "b" of Int8 ∷ []) [] (("a" ∷ "b" ∷ []) ≔≔ large ∷ []) [] gives E 95 at 0 ∷ [])
    ∷ (constant Int8 large gives ln 95 at_constant 0 none (some 0) none ∷ [])
    ∷ (constant Int8 (unary Neg (minus 3_000_000_000)) gives ln 95 at_constant 0 none (some 1) none ∷ [])
    -- the step is the minus's; of two the inner one stands on the literal
    ∷ (operator Int32 (minus 3_000_000_000) gives E 95 at 0 ∷ [])
    ∷ (operator Int32 (unary Neg (minus 3_000_000_000)) gives E 95 at 1 ∷ [])
    ∷ (operator Int64 (unary Neg (minus 3_000_000_000)) gives [])
    -- arguments and fields: no E0103, no E0127, and the next one is typed
    ∷ (operator Small (call' "tiny" (large ∷ᵉ []ᵉ)) gives E 95 at 2 ∷ [])
    ∷ (operator Int32 (call' "sum" (large ∷ᵉ v "bool" ∷ᵉ []ᵉ)) gives E 95 at 2 ∷ E 103 at 0 on "sum" ∷ [])
    ∷ (operator Point (struct' "Point" (init' "left" large (init' "right" (v "i8") []ⁱ))) gives E 95 at 3 ∷ E 127 at 0 on "right" ∷ [])
    -- a fold's seed: the rule goes on
    ∷ (operator Int32 (iterate_from' Fold "sum" large (v "ints" ∷ᵉ []ᵉ)) gives E 95 at 1 ∷ [])
    ∷ (operator Int32 (iterate_from' Fold "sum" large (v "bools" ∷ᵉ []ᵉ)) gives E 95 at 1 ∷ E 145 at 0 ∷ [])
    -- an operand, an index, an item, a condition, a branch, a side: the rule ends
    ∷ (operator Boolean (binary Eq large (v "lost")) gives E 95 at 1 ∷ [])
    ∷ (operator Int32 (binary Add (num 1) large) gives E 95 at 2 ∷ [])
    ∷ (operator Boolean (unary Not large) gives E 95 at 1 ∷ [])
    ∷ (operator Int32 (index (v "bool") large) gives E 95 at 2 ∷ [])
    ∷ (operator (Array 3 Int32) (array (num 1 ∷ᵉ large ∷ᵉ v "lost" ∷ᵉ []ᵉ)) gives E 95 at 2 ∷ [])
    ∷ (operator Int32 (ite large (v "lost") (v "lost")) gives E 95 at 1 ∷ [])
    ∷ (operator Int32 (ite (v "bool") large (v "lost")) gives E 95 at 2 ∷ [])
    ∷ (operator Int32 (arrow (num 0) (pre large)) gives E 95 at 3 ∷ [])
    ∷ (operator Int32 (merge' "bool" (v "i8") large) gives E 95 at 2 ∷ [])
    ∷ (operator Int32 (when' true "bool" large) gives E 95 at 1 ∷ [])
    -- a cast hands no hint to its operand
    ∷ (operator Int64 (cast Int64 large) gives E 95 at 2 ∷ [])
    -- a left operand that is an integer type hints the right one, an alias of one doesn't
    ∷ (operator Boolean (binary Lt (v "i64") large) gives [])
    ∷ (operator Boolean (binary Lt (v "small") large) gives E 95 at 2 ∷ [])
    ∷ []

-- rows of what it doesn't: a tuple's items, a map's seed, behind an operand without a type, under an unknown node
abbrev unmet : List (Seen × Seen)
unmet =
    (operator Int32 (tuple (large ∷ᵉ []ᵉ)) gives [])
    ∷ (operator (Array 2 Int32) (iterate_from' Map "next" large (v "ints" ∷ᵉ []ᵉ)) gives [])
    ∷ (operator Int32 (binary Add (v "lost") large) gives E 80 at 1 on "lost" ∷ [])
    ∷ (operator Int32 (call' "lost" (large ∷ᵉ []ᵉ)) gives E 100 at 0 on "lost" ∷ [])
    ∷ (operator Int32 (call' "sum" (large ∷ᵉ []ᵉ)) gives E 102 at 0 on "sum" ∷ [])
    ∷ (operator Int32 (struct' "Nobody" (init' "left" large []ⁱ)) gives E 125 at 0 on "Nobody" ∷ [])
    ∷ []

abbrev pub around : List (Seen × Seen)
around = met ++ unmet

-- every row holds
pub around_hold : map (λ r. r.0) around ≡ map (λ r. r.1) around
unfolding computes
around_hold = refl
