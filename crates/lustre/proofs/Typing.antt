-- What each rule of inference says: `x = e` in the world of Models, x an output of the type given, as one table proved by one statement.
-- A row stands for what a slip in one line of the rule would change.
-- Assumes nothing.
use mathlib.Core.Path.{◌≡◌, refl}
use mathlib.Core.Bool.{true, false}
use mathlib.Core.List.{List, [], ◌∷◌, ◌++◌, map}
use Rattle.lustre.specs.Types.{Ty, Array, Boolean, Int8, Int16, Int32, Int64, Uint8, Uint16, Uint32, Uint64, Float32, Float64, Character}
use Rattle.lustre.specs.Expr.{Expr, Map, Fold, Not, Neg, And, Or, Xor, Implies, Eq, Neq, Lt, Le, Gt, Ge, Add, Sub, Mul, Div, Mod}
use Rattle.lustre.specs.Expr.{BitAnd, BitOr, BitXor, Shl, Shr, const, float, char, unary, binary, ite, pre, arrow, index, tuple, array, cast, []ᵉ, ◌∷ᵉ◌, []ⁱ}
use Rattle.lustre.specs.Computes.{computes}
use Rattle.lustre.proofs.Models.{v, call', field', struct', init', when', merge', iterate', iterate_from', num, minus, yes}
use Rattle.lustre.proofs.Models.{E◌at◌, E◌at◌on◌, E◌eq◌, Named', Small, Pair, Point, Colour, operator, function, other_type, Seen, ◌gives◌}

-- an unknown name, whose E0080 shows that it is typed, and where
abbrev lost : Expr
lost = v "lost"

-- an empty array: E0123 where it has no array for a hint
abbrev empty : Expr
empty = array []ᵉ

-- a float literal
abbrev half : Expr
half = const float 4_602_678_819_172_646_912

-- an array of two Int32
abbrev ints : Ty
ints = Array 2 Int32

-- rows of literals, and of minus and not
abbrev literals : List (Seen × Seen)
literals =
    -- Literals. A bool is Bool, a char Char, whatever the hint
    (operator Boolean yes gives [])
    ∷ (operator Boolean (num 1) gives other_type ∷ [])
    ∷ (operator Character (const char 97) gives [])
    ∷ (operator Uint8 (const char 97) gives other_type ∷ [])
    ∷ (operator Int8 yes gives other_type ∷ [])
    -- a float takes a float for a hint, an alias of one too; else it is Float64
    ∷ (operator Float32 half gives [])
    ∷ (operator (Named' "Real") half gives [])
    ∷ (operator Float64 half gives [])
    ∷ (operator Int32 half gives other_type ∷ [])
    ∷ (operator Uint64 half gives other_type ∷ [])
    ∷ (operator Character half gives other_type ∷ [])
    ∷ (operator Boolean (binary Eq half (v "f64")) gives [])
    ∷ (operator Boolean (binary Eq half (v "f32")) gives E 84 at 0 ∷ [])
    -- an integer takes an integer hint that it fits, an alias of one too; else it is Int32, if it fits that (Literals has every bound)
    ∷ (operator Small (num 127) gives [])
    ∷ (operator Small (num 128) gives other_type ∷ [])
    ∷ (operator Float64 (num 1) gives other_type ∷ [])
    ∷ (operator Boolean (binary Eq (num 1) (v "i64")) gives E 84 at 0 ∷ [])
    -- its word is two's complement: −1, −128, −129
    ∷ (operator Uint8 (num 18_446_744_073_709_551_615) gives other_type ∷ [])
    ∷ (operator Int8 (num 18_446_744_073_709_551_488) gives [])
    ∷ (operator Int8 (num 18_446_744_073_709_551_487) gives other_type ∷ [])
    -- the ranges of the integer types, at their ends
    ∷ (operator Int8 (minus 129) gives other_type ∷ [])
    ∷ (operator Int16 (num 32_767) gives [])
    ∷ (operator Int16 (num 32_768) gives other_type ∷ [])
    ∷ (operator Int16 (minus 32_768) gives [])
    ∷ (operator Int16 (minus 32_769) gives other_type ∷ [])
    ∷ (operator Int64 (num 9_223_372_036_854_775_807) gives [])
    ∷ (operator Int64 (num 9_223_372_036_854_775_808) gives [])
    ∷ (operator Uint8 (num 255) gives [])
    ∷ (operator Uint8 (num 256) gives other_type ∷ [])
    ∷ (operator Uint8 (minus 1) gives other_type ∷ [])
    ∷ (operator Uint16 (num 65_535) gives [])
    ∷ (operator Uint16 (num 65_536) gives other_type ∷ [])
    ∷ (operator Uint32 (num 4_294_967_295) gives [])
    ∷ (operator Uint32 (num 4_294_967_296) gives E 95 at 0 ∷ [])
    ∷ (operator Uint64 (num 9_223_372_036_854_775_807) gives [])
    ∷ (operator Uint64 (num 9_223_372_036_854_775_808) gives E 95 at 0 ∷ [])
    -- a minus directly on an integer literal is taken first: −0, and −(−1) as one literal
    ∷ (operator Uint8 (minus 0) gives [])
    ∷ (operator Uint8 (minus 18_446_744_073_709_551_615) gives [])
    -- −(−2^63) fits Uint64 only: document 01, where the Rust overflows
    ∷ (operator Uint64 (minus 9_223_372_036_854_775_808) gives [])
    ∷ (operator Int64 (minus 9_223_372_036_854_775_808) gives E 95 at 0 ∷ [])
    -- a minus on a minus is not: it hands its hint on
    ∷ (operator Int8 (unary Neg (minus 128)) gives [])
    ∷ (operator Uint8 (unary Neg (minus 1)) gives other_type ∷ [])
    ∷ (operator Float32 (unary Neg half) gives [])
    -- minus of no number, of an alias of a number; its type is its operand's
    ∷ (operator Int32 (unary Neg yes) gives E 82 at 0 ∷ [])
    ∷ (operator Character (unary Neg (v "char")) gives E 82 at 0 ∷ [])
    ∷ (operator Int32 (unary Neg (const char 97)) gives E 82 at 0 ∷ [])
    ∷ (operator Small (unary Neg (v "small")) gives [])
    ∷ (operator Float64 (unary Neg (v "f64")) gives [])
    ∷ (operator Int8 (unary Neg (v "i32")) gives other_type ∷ [])
    ∷ (operator Int8 (unary Neg lost) gives E 80 at 1 on "lost" ∷ [])
    -- not of a bool, of an alias of Bool; it hands its hint on too
    ∷ (operator Boolean (unary Not (v "bool")) gives [])
    ∷ (operator Boolean (unary Not (v "truth")) gives [])
    ∷ (operator Boolean (unary Not (v "i8")) gives E 81 at 0 ∷ [])
    ∷ (operator Boolean (unary Not (num 1)) gives E 81 at 0 ∷ [])
    ∷ (operator ints (unary Not empty) gives E 81 at 0 ∷ [])
    ∷ (operator Int8 (unary Not (v "bool")) gives other_type ∷ [])
    ∷ []

-- rows of variables
abbrev names : List (Seen × Seen)
names =
    -- Names: a constant, a variant, an unknown one
    (operator Int32 (v "limit") gives [])
    ∷ (operator Int8 (v "limit") gives other_type ∷ [])
    ∷ (operator Colour (v "red") gives [])
    ∷ (operator Int32 (v "green") gives other_type ∷ [])
    ∷ (operator Int32 lost gives E 80 at 0 on "lost" ∷ [])
    ∷ []

-- rows of casts
abbrev casts : List (Seen × Seen)
casts =
    -- Casts: of no number, to no number; the first is said where both are so. The target is not resolved, the operand is
    (operator Int8 (cast Int8 (v "i32")) gives [])
    ∷ (operator Int32 (cast Int8 (v "i32")) gives other_type ∷ [])
    ∷ (operator Float32 (cast Float32 (v "small")) gives [])
    ∷ (operator Int8 (cast Int8 (v "f64")) gives [])
    ∷ (operator Int8 (cast Int8 (v "bool")) gives E 93 at 0 ∷ [])
    ∷ (operator Int8 (cast Boolean (v "i32")) gives E 94 at 0 ∷ [])
    ∷ (operator Int8 (cast Character (v "i32")) gives E 94 at 0 ∷ [])
    ∷ (operator Int8 (cast Small (v "i32")) gives E 94 at 0 ∷ [])
    ∷ (operator Int8 (cast Boolean (v "bool")) gives E 93 at 0 ∷ [])
    -- its operand has no hint
    ∷ (operator ints (cast Int8 empty) gives E 123 at 2 ∷ [])
    ∷ []

-- rows of the twenty operators
abbrev operators : List (Seen × Seen)
operators =
    -- Operators on two chars, one after the other: E0083, none, E0085, E0086, E0087
    (operator Boolean (binary And (v "char") (v "char")) gives E 83 at 0 ∷ [])
    ∷ (operator Boolean (binary Or (v "char") (v "char")) gives E 83 at 0 ∷ [])
    ∷ (operator Boolean (binary Xor (v "char") (v "char")) gives E 83 at 0 ∷ [])
    ∷ (operator Boolean (binary Implies (v "char") (v "char")) gives E 83 at 0 ∷ [])
    ∷ (operator Boolean (binary Eq (v "char") (v "char")) gives [])
    ∷ (operator Boolean (binary Neq (v "char") (v "char")) gives [])
    ∷ (operator Boolean (binary Lt (v "char") (v "char")) gives E 85 at 0 ∷ [])
    ∷ (operator Boolean (binary Le (v "char") (v "char")) gives E 85 at 0 ∷ [])
    ∷ (operator Boolean (binary Gt (v "char") (v "char")) gives E 85 at 0 ∷ [])
    ∷ (operator Boolean (binary Ge (v "char") (v "char")) gives E 85 at 0 ∷ [])
    ∷ (operator Character (binary Add (v "char") (v "char")) gives E 86 at 0 ∷ [])
    ∷ (operator Character (binary Sub (v "char") (v "char")) gives E 86 at 0 ∷ [])
    ∷ (operator Character (binary Mul (v "char") (v "char")) gives E 86 at 0 ∷ [])
    ∷ (operator Character (binary Div (v "char") (v "char")) gives E 86 at 0 ∷ [])
    ∷ (operator Character (binary Mod (v "char") (v "char")) gives E 86 at 0 ∷ [])
    ∷ (operator Character (binary BitAnd (v "char") (v "char")) gives E 87 at 0 ∷ [])
    ∷ (operator Character (binary BitOr (v "char") (v "char")) gives E 87 at 0 ∷ [])
    ∷ (operator Character (binary BitXor (v "char") (v "char")) gives E 87 at 0 ∷ [])
    ∷ (operator Character (binary Shl (v "char") (v "char")) gives E 87 at 0 ∷ [])
    ∷ (operator Character (binary Shr (v "char") (v "char")) gives E 87 at 0 ∷ [])
    -- logic wants two bools, aliases too, and gives one
    ∷ (operator Boolean (binary And (v "bool") (v "truth")) gives [])
    ∷ (operator Boolean (binary Or (v "truth") (v "bool")) gives [])
    ∷ (operator Boolean (binary Xor (v "bool") (v "i32")) gives E 83 at 0 ∷ [])
    ∷ (operator Boolean (binary Implies (v "i32") (v "bool")) gives E 83 at 0 ∷ [])
    ∷ (operator Int8 (binary And (v "bool") (v "bool")) gives other_type ∷ [])
    -- equality wants one type, also of names, arrays and tuples
    ∷ (operator Boolean (binary Eq (v "colour") (v "red")) gives [])
    ∷ (operator Boolean (binary Eq (v "point") (v "spot")) gives [])
    ∷ (operator Boolean (binary Eq (v "point") (v "colour")) gives E 84 at 0 ∷ [])
    ∷ (operator Boolean (binary Neq (v "ints") (v "pair")) gives [])
    ∷ (operator Boolean (binary Neq (v "ints") (v "ints3")) gives E 84 at 0 ∷ [])
    ∷ (operator Boolean (binary Neq (v "ints") (v "bools")) gives E 84 at 0 ∷ [])
    ∷ (operator Boolean (binary Eq (v "ints") (v "i32")) gives E 84 at 0 ∷ [])
    ∷ (operator Boolean (binary Eq (v "i32") (v "ints")) gives E 84 at 0 ∷ [])
    ∷ (operator Boolean (binary Eq (v "i32") (v "point")) gives E 84 at 0 ∷ [])
    ∷ (operator Boolean (binary Eq (v "point") (v "i32")) gives E 84 at 0 ∷ [])
    ∷ (operator Boolean (binary Eq (v "point") (v "ints")) gives E 84 at 0 ∷ [])
    ∷ (operator Boolean (binary Eq (v "ints") (v "point")) gives E 84 at 0 ∷ [])
    ∷ (operator Boolean (binary Eq (tuple []ᵉ) (call' "two" []ᵉ)) gives E 84 at 0 ∷ [])
    ∷ (operator Boolean (binary Eq (tuple (lost ∷ᵉ lost ∷ᵉ []ᵉ)) (call' "two" []ᵉ)) gives [])
    ∷ (operator Boolean (binary Eq (v "i32") (call' "two" []ᵉ)) gives E 84 at 0 ∷ [])
    ∷ (operator Boolean (binary Eq (tuple []ᵉ) (call' "quiet" []ᵉ)) gives E 84 at 0 ∷ [])
    ∷ (operator Int8 (binary Eq (v "i32") (v "i32")) gives other_type ∷ [])
    -- order wants two numbers of one type
    ∷ (operator Boolean (binary Lt (v "small") (v "i8")) gives [])
    ∷ (operator Boolean (binary Le (v "f64") (v "f64")) gives [])
    ∷ (operator Boolean (binary Gt (v "i8") (v "i32")) gives E 85 at 0 ∷ [])
    ∷ (operator Boolean (binary Ge (v "bool") (v "bool")) gives E 85 at 0 ∷ [])
    ∷ (operator Int8 (binary Lt (v "i8") (v "i8")) gives other_type ∷ [])
    -- arithmetic wants two numbers of one type and gives the left one's
    ∷ (operator Int8 (binary Add (v "small") (v "i8")) gives [])
    ∷ (operator Float32 (binary Div (v "f32") (v "f32")) gives [])
    ∷ (operator Int8 (binary Sub (v "i8") (v "i32")) gives E 86 at 0 ∷ [])
    ∷ (operator Boolean (binary Mul (v "bool") (v "bool")) gives E 86 at 0 ∷ [])
    ∷ (operator Boolean (binary Add (v "i8") (v "i8")) gives other_type ∷ [])
    -- bitwise operators want two integers of one type and give the left one's: Float64 bit-and Float64 is E0087
    ∷ (operator Int8 (binary BitOr (v "i8") (v "small")) gives [])
    ∷ (operator Uint64 (binary BitAnd (v "u64") (v "u64")) gives [])
    ∷ (operator Float64 (binary BitAnd (v "f64") (v "f64")) gives E 87 at 0 ∷ [])
    ∷ (operator Float32 (binary BitAnd (v "f32") (v "f32")) gives E 87 at 0 ∷ [])
    ∷ (operator Boolean (binary BitXor (v "bool") (v "bool")) gives E 87 at 0 ∷ [])
    ∷ (operator Int8 (binary Shl (v "i8") (v "i32")) gives E 87 at 0 ∷ [])
    ∷ (operator Boolean (binary Shr (v "i8") (v "i8")) gives other_type ∷ [])
    -- logic, equality and order hand no hint on, arithmetic and bitwise operators do
    ∷ (operator ints (binary And empty empty) gives E 123 at 1 ∷ [])
    ∷ (operator ints (binary Eq empty empty) gives E 123 at 1 ∷ [])
    ∷ (operator ints (binary Lt empty empty) gives E 123 at 1 ∷ [])
    ∷ (operator ints (binary Add empty empty) gives E 86 at 0 ∷ [])
    ∷ (operator ints (binary BitAnd empty empty) gives E 87 at 0 ∷ [])
    -- the left type is the right operand's hint if it is an integer type as it stands; else the operator's own hint is
    ∷ (operator Boolean (binary Eq (v "i8") (num 1)) gives [])
    ∷ (operator Boolean (binary Eq (num 1) (v "i8")) gives E 84 at 0 ∷ [])
    ∷ (operator Boolean (binary Eq (v "f32") half) gives E 84 at 0 ∷ [])
    ∷ (operator Float32 (binary Add (v "f32") half) gives [])
    ∷ (operator Float64 (binary Add (v "f32") half) gives E 86 at 0 ∷ [])
    ∷ (operator Boolean (binary Eq (v "small") (num 1)) gives E 84 at 0 ∷ [])
    ∷ (operator Small (binary Add (v "small") (num 1)) gives [])
    ∷ (operator Int32 (binary Add (v "i8") (num 1)) gives other_type ∷ [])
    -- the result is the left type, not the right one: i8 + small hints the 1, small + i8 does not
    ∷ (operator Boolean (binary Eq (binary Add (v "i8") (v "small")) (num 1)) gives [])
    ∷ (operator Boolean (binary Eq (binary Add (v "small") (v "i8")) (num 1)) gives E 84 at 0 ∷ [])
    ∷ (operator Boolean (binary Eq (binary BitOr (v "i8") (v "small")) (num 1)) gives [])
    ∷ (operator Boolean (binary Eq (binary BitOr (v "small") (v "i8")) (num 1)) gives E 84 at 0 ∷ [])
    -- nothing is typed after an operand without a type
    ∷ (operator Int32 (binary Add lost lost) gives E 80 at 1 on "lost" ∷ [])
    ∷ (operator Int32 (binary Add (unary Neg (v "bool")) lost) gives E 82 at 1 ∷ [])
    ∷ []

-- rows of if, arrow, pre, merge and when
abbrev branches : List (Seen × Seen)
branches =
    -- Branches. A condition is a bool, or an alias of Bool; after E0090 the branches are not typed
    (operator Int32 (ite (v "truth") (v "i32") (v "i32")) gives [])
    ∷ (operator Int32 (ite (v "i32") lost lost) gives E 90 at 0 ∷ [])
    ∷ (operator Int32 (ite lost lost lost) gives E 80 at 1 on "lost" ∷ [])
    ∷ (operator Int32 (ite (v "bool") lost lost) gives E 80 at 2 on "lost" ∷ [])
    -- a condition does not get the hint of the whole
    ∷ (operator ints (ite empty (v "ints") (v "ints")) gives E 123 at 1 ∷ [])
    -- branches agree up to aliases, and the type is the first's
    ∷ (operator Int8 (ite (v "bool") (v "small") (v "i8")) gives [])
    ∷ (operator Int8 (ite (v "bool") (v "i8") (v "i32")) gives E 91 at 0 ∷ [])
    ∷ (operator Boolean (binary Eq (ite (v "bool") (v "i8") (v "small")) (num 1)) gives [])
    ∷ (operator Boolean (binary Eq (ite (v "bool") (v "small") (v "i8")) (num 1)) gives E 84 at 0 ∷ [])
    -- without a hint the first is the second's hint; a hint goes to both
    ∷ (operator Boolean (binary Eq (ite (v "bool") (v "i8") (num 1)) (v "i8")) gives [])
    ∷ (operator Boolean (binary Eq (ite (v "bool") (num 1) (v "i8")) (v "i8")) gives E 91 at 1 ∷ [])
    ∷ (operator Int8 (ite (v "bool") (num 1) (v "i8")) gives [])
    ∷ (operator Int64 (ite (v "bool") (v "i8") (num 1)) gives E 91 at 0 ∷ [])
    -- the sides of an arrow are as branches
    ∷ (operator Int8 (arrow (v "small") (v "i8")) gives [])
    ∷ (operator Int8 (arrow (v "i8") (v "i32")) gives E 92 at 0 ∷ [])
    ∷ (operator Int8 (arrow lost lost) gives E 80 at 1 on "lost" ∷ [])
    ∷ (operator Boolean (binary Eq (arrow (v "i8") (num 1)) (v "i8")) gives [])
    ∷ (operator Boolean (binary Eq (arrow (num 1) (v "i8")) (v "i8")) gives E 92 at 1 ∷ [])
    ∷ (operator Int64 (arrow (v "i8") (num 1)) gives E 92 at 0 ∷ [])
    ∷ (operator Boolean (binary Eq (arrow (v "small") (v "i8")) (num 1)) gives E 84 at 0 ∷ [])
    -- a pre has its operand's type, and hands its hint on
    ∷ (operator Int8 (arrow (v "i8") (pre (num 1))) gives [])
    ∷ (operator Int8 (arrow (v "i8") (pre (v "i32"))) gives E 92 at 0 ∷ [])
    -- the branches of a merge are as those of an if
    ∷ (operator Int8 (merge' "bool" (v "small") (v "i8")) gives [])
    ∷ (operator Int8 (merge' "bool" (v "i8") (v "i32")) gives E 131 at 0 ∷ [])
    ∷ (operator Int8 (merge' "bool" lost lost) gives E 80 at 1 on "lost" ∷ [])
    ∷ (operator Boolean (binary Eq (merge' "bool" (v "i8") (num 1)) (v "i8")) gives [])
    ∷ (operator Boolean (binary Eq (merge' "bool" (num 1) (v "i8")) (v "i8")) gives E 131 at 1 ∷ [])
    ∷ (operator Int64 (merge' "bool" (v "i8") (num 1)) gives E 131 at 0 ∷ [])
    -- a clock is a bool among ports, an alias of Bool too. It is judged first, and typing goes on after its line
    ∷ (operator Int8 (when' true "truth" (num 1)) gives [])
    ∷ (operator Int8 (when' false "bool" (v "small")) gives [])
    ∷ (operator Int8 (when' true "i32" lost) gives E 130 at 0 on "i32" ∷ E 80 at 1 on "lost" ∷ [])
    ∷ (operator Int8 (when' false "lost" (v "i32")) gives E 80 at 0 on "lost" ∷ other_type ∷ [])
    ∷ (operator Int8 (when' true "sure" (v "i8")) gives E 80 at 0 on "sure" ∷ [])
    ∷ (operator Int8 (when' true "red" (v "i8")) gives E 80 at 0 on "red" ∷ [])
    ∷ (operator Int8 (merge' "char" (v "i8") lost) gives E 130 at 0 on "char" ∷ E 80 at 2 on "lost" ∷ [])
    ∷ (operator Int8 (merge' "lost" (v "i8") (v "bool")) gives E 80 at 0 on "lost" ∷ E 131 at 0 ∷ [])
    ∷ []

-- rows of calls and tuples
abbrev calls : List (Seen × Seen)
calls =
    -- Calls. Of an unknown node: nothing under it is typed
    (operator Int32 (call' "lost" (lost ∷ᵉ []ᵉ)) gives E 100 at 0 on "lost" ∷ [])
    -- a function calls functions and imported nodes, an operator calls all; typing goes on after E0101
    ∷ (function Int32 (call' "next" (v "i32" ∷ᵉ []ᵉ)) gives [])
    ∷ (function Int32 (call' "outer" (v "i32" ∷ᵉ []ᵉ)) gives [])
    ∷ (function Int32 (call' "count" (v "i32" ∷ᵉ []ᵉ)) gives E 101 at 0 on "count" ∷ [])
    ∷ (operator Int32 (call' "count" (v "i32" ∷ᵉ []ᵉ)) gives [])
    ∷ (function Int8 (call' "count" (v "i32" ∷ᵉ []ᵉ)) gives E 101 at 0 on "count" ∷ other_type ∷ [])
    ∷ (function Int32 (call' "count" []ᵉ) gives E 101 at 0 on "count" ∷ E 102 at 0 on "count" ∷ [])
    ∷ (function Int32 (call' "count" (v "bool" ∷ᵉ []ᵉ)) gives E 101 at 0 on "count" ∷ E 103 at 0 on "count" ∷ [])
    -- another number of arguments: they are not typed, and there is no type
    ∷ (operator Int8 (call' "sum" (lost ∷ᵉ []ᵉ)) gives E 102 at 0 on "sum" ∷ [])
    ∷ (operator Int8 (call' "next" (v "i32" ∷ᵉ v "i32" ∷ᵉ []ᵉ)) gives E 102 at 0 on "next" ∷ [])
    -- arguments are hinted by and compared with their inputs, one by one, and a type is still given
    ∷ (operator Int32 (call' "sum" (v "bool" ∷ᵉ v "i8" ∷ᵉ []ᵉ)) gives E 103 at 0 on "sum" ∷ E 103 at 0 on "sum" ∷ [])
    ∷ (operator Int32 (call' "sum" (lost ∷ᵉ v "bool" ∷ᵉ []ᵉ)) gives E 80 at 2 on "lost" ∷ E 103 at 0 on "sum" ∷ [])
    ∷ (operator Int32 (call' "sum" (v "bool" ∷ᵉ lost ∷ᵉ []ᵉ)) gives E 103 at 0 on "sum" ∷ E 80 at 3 on "lost" ∷ [])
    ∷ (operator Int8 (call' "sum" (v "bool" ∷ᵉ lost ∷ᵉ []ᵉ)) gives E 103 at 0 on "sum" ∷ E 80 at 3 on "lost" ∷ other_type ∷ [])
    ∷ (operator Int8 (call' "tiny" (num 1 ∷ᵉ []ᵉ)) gives [])
    ∷ (operator Int8 (call' "tiny" (v "i8" ∷ᵉ []ᵉ)) gives [])
    -- one output gives its type, none the unit, several a tuple: E0040 for a unit, E0042 for a tuple of another number than one
    ∷ (operator Boolean (call' "test" (v "i32" ∷ᵉ []ᵉ)) gives [])
    ∷ (operator Int32 (call' "quiet" []ᵉ) gives other_type ∷ [])
    ∷ (operator Int32 (call' "two" []ᵉ) gives E 42 eq 0 ∷ [])
    ∷ (operator Int32 (tuple (lost ∷ᵉ []ᵉ)) gives [])
    ∷ (operator Int32 (tuple []ᵉ) gives E 42 eq 0 ∷ [])
    ∷ []

-- rows of fields
abbrev fields : List (Seen × Seen)
fields =
    -- Fields: of a record, through an alias; an unknown one; of a name that is no record; of a basic type, of an array
    (operator Int32 (field' "left" (v "point")) gives [])
    ∷ (operator Boolean (field' "right" (v "spot")) gives [])
    ∷ (operator Int32 (field' "right" (v "point")) gives other_type ∷ [])
    ∷ (operator Int32 (field' "lost" (v "point")) gives E 120 at 0 on "lost" ∷ [])
    ∷ (operator Int32 (field' "left" (v "colour")) gives E 121 at 0 on "left" ∷ [])
    ∷ (operator Int32 (field' "left" (v "i32")) gives E 122 at 0 on "left" ∷ [])
    ∷ (operator Int32 (field' "left" (v "char")) gives E 122 at 0 on "left" ∷ [])
    ∷ (operator Int32 (field' "left" (v "ints")) gives E 122 at 0 on "left" ∷ [])
    ∷ (operator Int32 (field' "left" (v "pair")) gives E 122 at 0 on "left" ∷ [])
    -- a tuple and a unit are named types that no record declares
    ∷ (operator Int32 (field' "left" (tuple []ᵉ)) gives E 121 at 0 on "left" ∷ [])
    ∷ (operator Int32 (field' "left" (call' "quiet" []ᵉ)) gives E 121 at 0 on "left" ∷ [])
    -- the base has no hint
    ∷ (operator ints (field' "left" empty) gives E 123 at 1 ∷ [])
    ∷ (operator Int32 (field' "left" lost) gives E 80 at 1 on "lost" ∷ [])
    ∷ []

-- rows of indices
abbrev indices : List (Seen × Seen)
indices =
    -- Indices: an array, an alias of one; E0111 and then still E0110, or the element
    (operator Int32 (index (v "ints") (num 0)) gives [])
    ∷ (operator Int32 (index (v "pair") (v "small")) gives [])
    ∷ (operator Int32 (index (v "ints") (v "bool")) gives E 111 at 0 ∷ [])
    ∷ (operator Int8 (index (v "ints") (v "f64")) gives E 111 at 0 ∷ other_type ∷ [])
    ∷ (operator Int32 (index (v "i32") (num 0)) gives E 110 at 0 ∷ [])
    ∷ (operator Int32 (index (v "point") (num 0)) gives E 110 at 0 ∷ [])
    ∷ (operator Int32 (index (v "i32") (v "bool")) gives E 111 at 0 ∷ E 110 at 0 ∷ [])
    ∷ (operator Int32 (index lost lost) gives E 80 at 1 on "lost" ∷ [])
    ∷ (operator Int32 (index (v "i32") lost) gives E 80 at 2 on "lost" ∷ [])
    -- the index has the hint Int32, the base has none
    ∷ (operator Int32 (index (v "ints") (ite (v "bool") (v "i8") (num 1))) gives E 91 at 2 ∷ [])
    ∷ (operator Int64 (index (v "ints") (ite (v "bool") (v "i32") (num 1))) gives other_type ∷ [])
    ∷ (operator ints (index empty (num 0)) gives E 123 at 1 ∷ [])
    -- an element comes back resolved, a variable as declared
    ∷ (operator Boolean (binary Eq (index (v "smalls") (num 0)) (num 1)) gives [])
    ∷ []

-- rows of array values
abbrev arrays : List (Seen × Seen)
arrays =
    -- Arrays: the number of items and the type of the first
    (operator ints (array (v "i32" ∷ᵉ num 1 ∷ᵉ []ᵉ)) gives [])
    ∷ (operator Pair (array (num 1 ∷ᵉ num 2 ∷ᵉ []ᵉ)) gives [])
    ∷ (operator ints (array (num 1 ∷ᵉ num 2 ∷ᵉ num 3 ∷ᵉ []ᵉ)) gives other_type ∷ [])
    ∷ (operator ints (array (v "i8" ∷ᵉ v "small" ∷ᵉ []ᵉ)) gives other_type ∷ [])
    -- the hint's element type is each item's hint, aliases resolved; the first item is no hint
    ∷ (operator (Array 2 Int8) (array (num 1 ∷ᵉ num 2 ∷ᵉ []ᵉ)) gives [])
    ∷ (operator (Array 2 Small) (array (num 1 ∷ᵉ v "i8" ∷ᵉ []ᵉ)) gives [])
    ∷ (operator (Array 1 ints) (array (array (num 1 ∷ᵉ num 2 ∷ᵉ []ᵉ) ∷ᵉ []ᵉ)) gives [])
    ∷ (operator Boolean (binary Eq (array (v "i8" ∷ᵉ num 1 ∷ᵉ []ᵉ)) (v "ints")) gives E 124 at 1 ∷ [])
    ∷ (operator Int8 (array (num 1 ∷ᵉ []ᵉ)) gives other_type ∷ [])
    ∷ (operator Int8 (array (tuple (lost ∷ᵉ lost ∷ᵉ []ᵉ) ∷ᵉ call' "two" []ᵉ ∷ᵉ []ᵉ)) gives other_type ∷ [])
    ∷ (operator Int8 (array (tuple []ᵉ ∷ᵉ call' "two" []ᵉ ∷ᵉ []ᵉ)) gives E 124 at 0 ∷ [])
    -- items agree with the first, up to aliases; after E0124 no item is typed, nor after one without a type
    ∷ (operator (Array 2 Int8) (array (v "small" ∷ᵉ v "i8" ∷ᵉ []ᵉ)) gives [])
    ∷ (operator (Array 3 Int8) (array (v "i8" ∷ᵉ v "i32" ∷ᵉ lost ∷ᵉ []ᵉ)) gives E 124 at 0 ∷ [])
    ∷ (operator (Array 3 Int8) (array (v "i8" ∷ᵉ v "i8" ∷ᵉ v "i32" ∷ᵉ []ᵉ)) gives E 124 at 0 ∷ [])
    ∷ (operator ints (array (lost ∷ᵉ lost ∷ᵉ []ᵉ)) gives E 80 at 1 on "lost" ∷ [])
    ∷ (operator ints (array (v "i32" ∷ᵉ lost ∷ᵉ lost ∷ᵉ []ᵉ)) gives E 80 at 2 on "lost" ∷ [])
    -- an empty array has the hint's element type and length 0
    ∷ (operator (Array 0 Int32) empty gives [])
    ∷ (operator ints empty gives other_type ∷ [])
    ∷ (operator Int32 empty gives E 123 at 0 ∷ [])
    ∷ (operator Point empty gives E 123 at 0 ∷ [])
    ∷ []

-- rows of struct values
abbrev structs : List (Seen × Seen)
structs =
    -- Structs: values are hinted by and compared with their fields
    (operator Point (struct' "Point" (init' "left" (num 1) (init' "right" yes []ⁱ))) gives [])
    ∷ (operator Point (struct' "Spot" (init' "right" yes (init' "left" (num 1) []ⁱ))) gives [])
    ∷ (operator (Named' "Box") (struct' "Box" (init' "size" (num 1) []ⁱ)) gives [])
    ∷ (operator (Named' "Box") (struct' "Box" (init' "size" (v "i8") []ⁱ)) gives [])
    ∷ (operator Int32 (struct' "Box" (init' "size" (v "small") []ⁱ)) gives other_type ∷ [])
    ∷ (operator Point (struct' "Point" (init' "left" yes (init' "right" (num 1) []ⁱ))) gives E 127 at 0 on "left" ∷ E 127 at 0 on "right" ∷ [])
    ∷ (operator Point (struct' "Point" (init' "left" lost (init' "right" lost []ⁱ))) gives E 80 at 3 on "lost" ∷ E 80 at 5 on "lost" ∷ [])
    -- the value of an unknown field is not typed; missing fields come last, in the record's order; a type is still given
    ∷ (operator Point (struct' "Point" (init' "lost" lost (init' "right" (num 1) []ⁱ)))
    gives E 126 at 0 on "lost" ∷ E 127 at 0 on "right" ∷ E 128 at 0 on "left" ∷ [])
    ∷ (operator Point (struct' "Spot" []ⁱ) gives E 128 at 0 on "left" ∷ E 128 at 0 on "right" ∷ [])
    ∷ (operator Int32 (struct' "Point" []ⁱ) gives E 128 at 0 on "left" ∷ E 128 at 0 on "right" ∷ other_type ∷ [])
    ∷ (operator Point (struct' "Point" (init' "left" (num 1) (init' "left" yes (init' "right" yes []ⁱ)))) gives E 127 at 0 on "left" ∷ [])
    -- of no record: the resolved name, or the written one where that is a basic type or an array; values are not typed
    ∷ (operator Point (struct' "Nobody" (init' "left" lost []ⁱ)) gives E 125 at 0 on "Nobody" ∷ [])
    ∷ (operator Point (struct' "Ghost" []ⁱ) gives E 125 at 0 on "Nobody" ∷ [])
    ∷ (operator Point (struct' "Colour" []ⁱ) gives E 125 at 0 on "Colour" ∷ [])
    ∷ (operator Point (struct' "Small" []ⁱ) gives E 125 at 0 on "Small" ∷ [])
    ∷ (operator Point (struct' "Pair" []ⁱ) gives E 125 at 0 on "Pair" ∷ [])
    ∷ []

-- rows of maps
abbrev maps : List (Seen × Seen)
maps =
    -- Maps: an unknown function, no function, not one output; nothing is typed then
    (operator ints (iterate' Map "lost" (lost ∷ᵉ []ᵉ)) gives E 140 at 0 on "lost" ∷ [])
    ∷ (operator ints (iterate' Map "count" (lost ∷ᵉ []ᵉ)) gives E 141 at 0 on "count" ∷ [])
    ∷ (operator ints (iterate' Map "outer" (lost ∷ᵉ []ᵉ)) gives E 141 at 0 on "outer" ∷ [])
    ∷ (operator ints (iterate' Map "clocks" []ᵉ) gives E 141 at 0 on "clocks" ∷ [])
    ∷ (operator ints (iterate' Map "quiet" (lost ∷ᵉ []ᵉ)) gives E 142 at 0 on "quiet" ∷ [])
    ∷ (operator ints (iterate' Map "two" (lost ∷ᵉ []ᵉ)) gives E 142 at 0 on "two" ∷ [])
    -- an array of the outputs, as long as the arrays
    ∷ (operator ints (iterate' Map "next" (v "pair" ∷ᵉ []ᵉ)) gives [])
    ∷ (operator (Array 3 Boolean) (iterate' Map "test" (v "ints3" ∷ᵉ []ᵉ)) gives [])
    ∷ (operator ints (iterate' Map "sum" (v "ints" ∷ᵉ v "pair" ∷ᵉ []ᵉ)) gives [])
    ∷ (operator (Array 0 Int32) (iterate' Map "zero" []ᵉ) gives [])
    ∷ (operator (Array 2 Int8) (iterate' Map "tiny" (array (v "i8" ∷ᵉ v "small" ∷ᵉ []ᵉ) ∷ᵉ []ᵉ)) gives [])
    -- its arrays are typed with no hint, up to the first without a type or E0143
    ∷ (operator (Array 0 Int32) (iterate' Map "next" (empty ∷ᵉ []ᵉ)) gives E 123 at 2 ∷ [])
    ∷ (operator ints (iterate' Map "sum" (lost ∷ᵉ lost ∷ᵉ []ᵉ)) gives E 80 at 2 on "lost" ∷ [])
    ∷ (operator ints (iterate' Map "sum" (v "i32" ∷ᵉ lost ∷ᵉ []ᵉ)) gives E 143 at 0 ∷ [])
    ∷ (operator ints (iterate' Map "sum" (v "ints" ∷ᵉ v "point" ∷ᵉ []ᵉ)) gives E 143 at 0 ∷ [])
    -- lengths, then the number of arrays, then their elements in order
    ∷ (operator ints (iterate' Map "next" (v "ints" ∷ᵉ v "ints" ∷ᵉ v "ints3" ∷ᵉ []ᵉ)) gives E 144 at 0 ∷ [])
    ∷ (operator ints (iterate' Map "next" (v "ints" ∷ᵉ v "ints3" ∷ᵉ v "ints" ∷ᵉ []ᵉ)) gives E 144 at 0 ∷ [])
    ∷ (operator ints (iterate' Map "next" (v "bools" ∷ᵉ v "bools" ∷ᵉ []ᵉ)) gives E 145 at 0 ∷ [])
    ∷ (operator ints (iterate' Map "sum" (v "ints" ∷ᵉ []ᵉ)) gives E 145 at 0 ∷ [])
    ∷ (operator ints (iterate' Map "next" (v "bools" ∷ᵉ []ᵉ)) gives E 145 at 0 ∷ [])
    ∷ (operator ints (iterate' Map "sum" (v "ints" ∷ᵉ v "bools" ∷ᵉ []ᵉ)) gives E 145 at 0 ∷ [])
    -- a map's seed is not typed
    ∷ (operator ints (iterate_from' Map "next" lost (v "ints" ∷ᵉ []ᵉ)) gives [])
    ∷ []

-- rows of folds
abbrev folds : List (Seen × Seen)
folds =
    -- Folds: an accumulator and an element, and the accumulator is the output
    (operator Int32 (iterate_from' Fold "sum" (num 0) (v "ints" ∷ᵉ []ᵉ)) gives [])
    ∷ (operator Int32 (iterate' Fold "sum" (v "pair" ∷ᵉ []ᵉ)) gives [])
    ∷ (operator Int32 (iterate' Fold "sum" []ᵉ) gives [])
    ∷ (operator Int8 (iterate' Fold "sum" (v "ints" ∷ᵉ []ᵉ)) gives other_type ∷ [])
    ∷ (operator Int32 (iterate' Fold "zero" (v "ints" ∷ᵉ []ᵉ)) gives E 145 at 0 ∷ [])
    ∷ (operator Int32 (iterate' Fold "next" (v "ints" ∷ᵉ []ᵉ)) gives E 145 at 0 ∷ [])
    ∷ (operator Int32 (iterate' Fold "three" (v "ints" ∷ᵉ []ᵉ)) gives E 145 at 0 ∷ [])
    ∷ (operator Int32 (iterate_from' Fold "compare" lost (v "ints" ∷ᵉ []ᵉ)) gives E 145 at 0 ∷ [])
    -- the seed is hinted by and compared with the accumulator, after the arrays
    ∷ (operator Int8 (iterate_from' Fold "tally" (num 0) (v "bools" ∷ᵉ []ᵉ)) gives [])
    ∷ (operator Int8 (iterate_from' Fold "tally" (v "i8") (v "bools" ∷ᵉ []ᵉ)) gives [])
    ∷ (operator Int32 (iterate_from' Fold "sum" (v "bool") (v "ints" ∷ᵉ []ᵉ)) gives E 145 at 0 ∷ [])
    ∷ (operator Int32 (iterate_from' Fold "sum" (v "bool") (v "bools" ∷ᵉ []ᵉ)) gives E 145 at 0 ∷ [])
    ∷ (operator Int32 (iterate_from' Fold "sum" lost (lost ∷ᵉ []ᵉ)) gives E 80 at 3 on "lost" ∷ [])
    ∷ (operator Int32 (iterate_from' Fold "sum" lost (v "i32" ∷ᵉ []ᵉ)) gives E 143 at 0 ∷ [])
    ∷ (operator Int32 (iterate_from' Fold "sum" lost (v "ints" ∷ᵉ v "ints3" ∷ᵉ []ᵉ)) gives E 144 at 0 ∷ [])
    -- a seed without a type: typing goes on, with the elements and the output's type
    ∷ (operator Int32 (iterate_from' Fold "sum" lost (v "bools" ∷ᵉ []ᵉ)) gives E 80 at 1 on "lost" ∷ E 145 at 0 ∷ [])
    ∷ (operator Int8 (iterate_from' Fold "sum" lost (v "ints" ∷ᵉ []ᵉ)) gives E 80 at 1 on "lost" ∷ other_type ∷ [])
    -- the first array's elements are compared, and no other's
    ∷ (operator Int32 (iterate' Fold "sum" (v "bools" ∷ᵉ []ᵉ)) gives E 145 at 0 ∷ [])
    ∷ (operator Int32 (iterate' Fold "sum" (v "ints" ∷ᵉ v "bools" ∷ᵉ []ᵉ)) gives [])
    ∷ (operator Int32 (iterate' Fold "sum" (v "bools" ∷ᵉ v "ints" ∷ᵉ []ᵉ)) gives E 145 at 0 ∷ [])
    ∷ (operator Int8 (iterate' Fold "tally" (v "smalls" ∷ᵉ []ᵉ)) gives E 145 at 0 ∷ [])
    ∷ []

-- the table: what the definition says of a model, and what the Rust says
abbrev pub typings : List (Seen × Seen)
typings = literals ++ names ++ casts ++ operators ++ branches ++ calls ++ fields ++ indices ++ arrays ++ structs ++ maps ++ folds

-- every row holds
pub typings_hold : map (λ r. r.0) typings ≡ map (λ r. r.1) typings
unfolding computes
typings_hold = refl
