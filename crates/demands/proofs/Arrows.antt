-- The Rust's graph, which has no edge into the body of an arrow, and the one that is searched: each edge of the first is one of the second,
-- and where no arrow stands in the equations they are the same.
-- Assumes nothing.
use Prim.Native.Nat.{ℕ, ◌+◌}
use mathlib.Core.Path.{◌≡◌, refl, sym, ap, subst}
use mathlib.Core.Logic.{⊎_elim}
use mathlib.Core.List.Memᴰ
use mathlib.Core.List.{List, [], ◌∷◌, ◌++◌, Memᴰ}
use Rattle.lustre.specs.Name.{Name}
use Rattle.lustre.specs.Expr.{Expr, Exprs, Inits, size, visit, visits, visitsⁱ, const, var, unary, binary, ite, pre, arrow, call, field, index, tuple, array, struct, cast, when, merge, iterate, iterate_from, []ᵉ, ◌∷ᵉ◌, []ⁱ, init}
use Rattle.lustre.specs.Project.{Equation}
use Rattle.lustre.specs.Deps.{reads, reads_each, reads_eachⁱ, initial_sides, initial_sides_each, initial_sides_eachⁱ, rust_reads, rust_equation, rust_equations}
use Rattle.demands.specs.Loops.{Edge, Along, Closed, WithoutArrow, NoArrows, SameReads}

-- where no arrow is among expressions, none is among some of them
others : {x : ℕ × Expr} {xs : List (ℕ × Expr)} → WithoutArrow (x ∷ xs) → WithoutArrow xs
others h at i b m = h at i b (Memᴰ.tail m)

parts : (xs : List (ℕ × Expr)) {ys : List (ℕ × Expr)} → WithoutArrow (xs ++ ys) → WithoutArrow xs × WithoutArrow ys
parts xs {ys} h = ((λ at i b m. h at i b (Memᴰ.append_left ys m)), λ at i b m. h at i b (Memᴰ.append_right xs m))

-- an expression without an arrow is as the Rust reads it
mutual
  unfolding initial_sides visit

  same_sides : (at : ℕ) (e : Expr) → WithoutArrow (visit at e) → initial_sides e ≡ e
  same_sides at (const l w) h = refl
  same_sides at (var x) h = refl
  same_sides at (unary o e) h = rw (same_sides (at + 1) e (others h))
  same_sides at (binary o l r) h = let k = parts (visit (at + 1) l) (others h) in rw (same_sides (at + 1) l k.0, same_sides _ r k.1)
  same_sides at (ite c t e) h =
      let k = parts (visit (at + 1) c ++ visit (at + 1 + size c) t) (others h) in
      let l = parts (visit (at + 1) c) k.0 in
      rw (same_sides (at + 1) c l.0, same_sides _ t l.1, same_sides _ e k.1)
  same_sides at (pre e) h = rw (same_sides (at + 1) e (others h))
  same_sides at (arrow i b) h = absurd (h at i b (Memᴰ.head refl))
  same_sides at (call f es) h = rw (same_sides_each (at + 2) es (others h))
  same_sides at (field x e) h = rw (same_sides (at + 1) e (others h))
  same_sides at (index b i) h = let k = parts (visit (at + 1) b) (others h) in rw (same_sides (at + 1) b k.0, same_sides _ i k.1)
  same_sides at (tuple es) h = rw (same_sides_each (at + 1) es (others h))
  same_sides at (array es) h = rw (same_sides_each (at + 1) es (others h))
  same_sides at (struct n is) h = rw (same_sides_eachⁱ (at + 2) is (others h))
  same_sides at (cast t e) h = rw (same_sides _ e (others h))
  same_sides at (when on c e) h = rw (same_sides (at + 1) e (others h))
  same_sides at (merge c t f) h = let k = parts (visit (at + 1) t) (others h) in rw (same_sides (at + 1) t k.0, same_sides _ f k.1)
  same_sides at (iterate k f es) h = rw (same_sides_each (at + 2) es (others h))
  same_sides at (iterate_from k f s es) h = let l = parts (visit (at + 1) s) (others h) in rw (same_sides (at + 1) s l.0, same_sides_each _ es l.1)

  same_sides_each : (at : ℕ) (es : Exprs) → WithoutArrow (visits at es) → initial_sides_each es ≡ es
  same_sides_each at []ᵉ h = refl
  same_sides_each at (e ∷ᵉ es) h = let k = parts (visit at e) h in rw (same_sides at e k.0, same_sides_each _ es k.1)

  same_sides_eachⁱ : (at : ℕ) (is : Inits) → WithoutArrow (visitsⁱ at is) → initial_sides_eachⁱ is ≡ is
  same_sides_eachⁱ at []ⁱ h = refl
  same_sides_eachⁱ at (init x e is) h = let k = parts (visit (at + 1) e) h in rw (same_sides (at + 1) e k.0, same_sides_eachⁱ _ is k.1)

-- and reads the same names
pub same_reads : SameReads
unfolding rust_reads
same_reads e h = ap reads (same_sides 0 e h)

-- equations without arrows are as the Rust reads them
pub same_equations : (qs : List Equation) → NoArrows qs → rust_equations qs ≡ qs
unfolding rust_equations rust_equation
same_equations [] h = refl
same_equations (q ∷ qs) h = rw (same_sides 0 q.rhs h.0, same_equations qs h.1)

-- a member of two lists joined, where what is in each is in another
joined : {x : Name} {xs ys xs' ys' : List Name} → (Memᴰ x xs → Memᴰ x xs') → (Memᴰ x ys → Memᴰ x ys') → Memᴰ x (xs ++ ys) → Memᴰ x (xs' ++ ys')
joined {xs = xs} {xs' = xs'} {ys' = ys'} f g m = ⊎_elim (λ n. Memᴰ.append_left ys' (f n)) (λ n. Memᴰ.append_right xs' (g n)) (Memᴰ.append_cases xs m)

behind : {x c : Name} {ys ys' : List Name} → (Memᴰ x ys → Memᴰ x ys') → Memᴰ x (c ∷ ys) → Memᴰ x (c ∷ ys')
behind g (Memᴰ.head e) = Memᴰ.head e
behind g (Memᴰ.tail m) = Memᴰ.tail (g m)

-- what the Rust reads is read
module _ (x : Name) where
  mutual
    unfolding reads initial_sides

    still_read : (e : Expr) → Memᴰ x (reads (initial_sides e)) → Memᴰ x (reads e)
    still_read (const l w) m = m
    still_read (var y) m = m
    still_read (unary o e) m = still_read e m
    still_read (binary o l r) m = joined (λ n. still_read l n) (λ n. still_read r n) m
    still_read (ite c t e) m = joined (joined (λ n. still_read c n) (λ n. still_read t n)) (λ n. still_read e n) m
    still_read (pre e) m = m
    still_read (arrow i b) m = Memᴰ.append_left (reads b) (still_read i m)
    still_read (call f es) m = still_read_each es m
    still_read (field y e) m = still_read e m
    still_read (index b i) m = joined (λ n. still_read b n) (λ n. still_read i n) m
    still_read (tuple es) m = still_read_each es m
    still_read (array es) m = still_read_each es m
    still_read (struct n is) m = still_read_eachⁱ is m
    still_read (cast t e) m = still_read e m
    still_read (when on c e) m = behind (λ n. still_read e n) m
    still_read (merge c t f) m = behind (joined (λ n. still_read t n) (λ n. still_read f n)) m
    still_read (iterate k f es) m = still_read_each es m
    still_read (iterate_from k f s es) m = joined (λ n. still_read s n) (λ n. still_read_each es n) m

    still_read_each : (es : Exprs) → Memᴰ x (reads_each (initial_sides_each es)) → Memᴰ x (reads_each es)
    still_read_each []ᵉ m = m
    still_read_each (e ∷ᵉ es) m = joined (λ n. still_read e n) (λ n. still_read_each es n) m

    still_read_eachⁱ : (is : Inits) → Memᴰ x (reads_eachⁱ (initial_sides_eachⁱ is)) → Memᴰ x (reads_eachⁱ is)
    still_read_eachⁱ []ⁱ m = m
    still_read_eachⁱ (init y e is) m = joined (λ n. still_read e n) (λ n. still_read_eachⁱ is n) m

module _ (qs : List Equation) where
  -- each edge of the Rust's graph is an edge
  rust_edge : (a b : Name) → Edge (rust_equations qs) a b → Edge qs a b
  unfolding rust_equations rust_equation
  rust_edge a b (p, i, m, n) =
      let o = Memᴰ.of_map rust_equation qs i in
      (o.0, o.1, subst (λ (q : Equation). Memᴰ a q.lhs) (sym o.2) m, still_read b o.0.rhs (subst (λ (q : Equation). Memᴰ b (reads q.rhs)) (sym o.2) n))

  rust_along : (x : Name) (l : List Name) → Along (rust_equations qs) x l → Along qs x l
  unfolding Along
  rust_along x [] h = tt
  rust_along x (y ∷ l) h = (rust_edge x y h.0, rust_along y l h.1)

  -- so a closed path of the Rust's graph is one of the other
  pub rust_closed : (c : List Name) → Closed (rust_equations qs) c → Closed qs c
  rust_closed c k = record { first = k.first; between = k.between; shape = k.shape; steps = rust_along k.first (k.between ++ (k.first ∷ [])) k.steps }
