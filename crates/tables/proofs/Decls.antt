-- One type entered.
-- Assumes nothing.
use Rattle.std.specs.Prelude.{if◌then◌else◌}
use Prim.Native.Nat.{ℕ, suc, ◌+◌, ◌<◌}
use native.Mathlib.Omega.{arith}
use mathlib.Core.Path.{◌≡◌, refl, sym, ◌∙◌, ap, subst}
use mathlib.Core.List.{List, [], ◌∷◌, ◌++◌, map, map-append, append-nil, append_assoc}
use lib.ListN.{length, get_or, set}
use Rattle.lustre.specs.Name.{Name, ◌is◌, ◌among◌}
use Rattle.lustre.specs.Types.{Ty}
use Rattle.lustre.specs.Project.{Port, Decl, Alias, Record, Enum, decl_name}
use Rattle.lustre.specs.Line.{at_package, about}
use Rattle.lustre.specs.Answer.{place_number}
use Rattle.lustre.specs.Resolve.{aliases_of, records_of, variants_of}
use Rattle.lustre.specs.Report.{line, variants_in, repeated_variants, alias_numbers}
use Rattle.input.specs.Depths.{ShallowDecl}
use Rattle.demands.proofs.Sets.{mem_snoc}
use Rattle.lines.specs.Lines.{Noted}
use Rattle.lines.specs.declared.Spot.{Spot}
use Rattle.lines.specs.declared.Lines.{Lines}
use Rattle.loops.specs.Rows.{has, Connected}
use Rattle.standing.specs.Standing.{Source, NameAt, DeclAt}
use Rattle.rules.specs.World.{Typed, Listed}
use Rattle.scope.specs.Sets.{Holds}
use Rattle.scope.specs.Tables.{records, Tables}
use Rattle.scope.specs.Writes.{Reports}
use Rattle.scope.proofs.Rows.{row_set, tables_alias, tables_record}
use Rattle.scope.proofs.Sets.{holds_add, holds_same}
use Rattle.scope.proofs.World.{apart}
use Rattle.scope.proofs.Writes.{reports_append}
use Rattle.tables.specs.Entered.{SameNames, EnumGiven, TypeGiven, Numbers, Entered, one_type}
use Rattle.tables.proofs.Repeats.{Spotted, repeated}

-- ---- lists of one type more

-- the aliases
aliases_snoc : (ds : List Decl) (d : Decl) → aliases_of (ds ++ (d ∷ [])) ≡ aliases_of ds ++ aliases_of (d ∷ [])
unfolding aliases_of
aliases_snoc [] d = refl
aliases_snoc (Alias x t ∷ ds) d = ap (λ (l : List (Name × Ty)). (x, t) ∷ l) (aliases_snoc ds d)
aliases_snoc (Record x fs ∷ ds) d = aliases_snoc ds d
aliases_snoc (Enum x vs ∷ ds) d = aliases_snoc ds d

-- the records
records_snoc : (ds : List Decl) (d : Decl) → records_of (ds ++ (d ∷ [])) ≡ records_of ds ++ records_of (d ∷ [])
unfolding records_of
records_snoc [] d = refl
records_snoc (Alias x t ∷ ds) d = records_snoc ds d
records_snoc (Record x fs ∷ ds) d = ap (λ (l : List (Name × List Port)). (x, fs) ∷ l) (records_snoc ds d)
records_snoc (Enum x vs ∷ ds) d = records_snoc ds d

-- the variants
pub variants_snoc : (ds : List Decl) (d : Decl) → variants_of (ds ++ (d ∷ [])) ≡ variants_of ds ++ variants_of (d ∷ [])
unfolding variants_of
variants_snoc [] d = refl
variants_snoc (Alias x t ∷ ds) d = variants_snoc ds d
variants_snoc (Record x fs ∷ ds) d = variants_snoc ds d
variants_snoc (Enum x vs ∷ ds) d = rw (variants_snoc ds d) (sym (append_assoc (map (λ v. (v, x)) vs) (variants_of ds) (variants_of (d ∷ []))))

-- the numbers of aliases
numbers_snoc : (i : ℕ) (ds : List Decl) (d : Decl) → alias_numbers i (ds ++ (d ∷ [])) ≡ alias_numbers i ds ++ alias_numbers (i + length ds) (d ∷ [])
unfolding alias_numbers
numbers_snoc i [] d = let z : i ≡ i + 0 = omega arith in ap (λ (j : ℕ). alias_numbers j (d ∷ [])) z
numbers_snoc i (Alias x t ∷ ds) d = let z : suc i + length ds ≡ i + suc (length ds) = omega arith in ap (λ (l : List (Name × ℕ)). (x, i) ∷ l) (numbers_snoc (suc i) ds d ∙ ap (λ (j : ℕ). alias_numbers (suc i) ds ++ alias_numbers j (d ∷ [])) z)
numbers_snoc i (Record x fs ∷ ds) d = let z : suc i + length ds ≡ i + suc (length ds) = omega arith in numbers_snoc (suc i) ds d ∙ ap (λ (j : ℕ). alias_numbers (suc i) ds ++ alias_numbers j (d ∷ [])) z
numbers_snoc i (Enum x vs ∷ ds) d = let z : suc i + length ds ≡ i + suc (length ds) = omega arith in numbers_snoc (suc i) ds d ∙ ap (λ (j : ℕ). alias_numbers (suc i) ds ++ alias_numbers j (d ∷ [])) z

-- a type more adds these to the lists
record Grown (ds : List Decl) (d : Decl) (as' : List (Name × Ty)) (rs : List (Name × List Port)) (vs : List (Name × Name)) (ns : List (Name × ℕ)) : Type 0 where
  aliases : aliases_of (ds ++ (d ∷ [])) ≡ aliases_of ds ++ as'
  fields : records_of (ds ++ (d ∷ [])) ≡ records_of ds ++ rs
  variants : variants_of (ds ++ (d ∷ [])) ≡ variants_of ds ++ vs
  numbers : alias_numbers 0 (ds ++ (d ∷ [])) ≡ alias_numbers 0 ds ++ ns

-- whatever it is
grown : (ds : List Decl) (d : Decl) → Grown ds d (aliases_of (d ∷ [])) (records_of (d ∷ [])) (variants_of (d ∷ [])) (alias_numbers (0 + length ds) (d ∷ []))
grown ds d = record { aliases = aliases_snoc ds d; fields = records_snoc ds d; variants = variants_snoc ds d; numbers = numbers_snoc 0 ds d }

-- an alias
alias_grown : (ds : List Decl) (d : Decl) (x : Name) (t : Ty) → d ≡ Alias x t → Grown ds d ((x, t) ∷ []) [] [] ((x, length ds) ∷ [])
unfolding aliases_of records_of variants_of alias_numbers
alias_grown ds d x t e = let z : 0 + length ds ≡ length ds = omega arith in rw (e, ← z) (grown ds (Alias x t))

-- a record
record_grown : (ds : List Decl) (d : Decl) (x : Name) (fs : List Port) → d ≡ Record x fs → Grown ds d [] ((x, fs) ∷ []) [] []
unfolding aliases_of records_of variants_of alias_numbers
record_grown ds d x fs e = rw e (grown ds (Record x fs))

-- an enum
enum_grown : (ds : List Decl) (d : Decl) (x : Name) (vs : List Name) → d ≡ Enum x vs → Grown ds d [] [] (map (λ v. (v, x)) vs) []
unfolding aliases_of records_of variants_of alias_numbers
enum_grown ds d x vs e =
    let l : List (Name × Name) = map (λ v. (v, x)) vs in
    rw e (subst (λ (us : List (Name × Name)). Grown ds (Enum x vs) [] [] us []) (append-nil l) (grown ds (Enum x vs)))

-- ---- what stands at the record

module _ (S : Source) (at : ℕ) where
  -- the record and the name of any type
  pub record DeclHead (d : Decl) : Type 0 where
    pub in_kinds : at < length S.ks
    pub in_words : at < length S.ws
    pub name : NameAt S at (decl_name d)

  -- so stands each type
  pub decl_head : (d : Decl) → DeclAt S d at → DeclHead d
  unfolding DeclAt decl_name
  decl_head (Alias x t) s = record { in_kinds = s.0.in_kinds; in_words = s.0.in_words; name = s.1 }
  decl_head (Record x fs) s = record { in_kinds = s.0.in_kinds; in_words = s.0.in_words; name = s.1 }
  decl_head (Enum x vs) s = record { in_kinds = s.0.in_kinds; in_words = s.0.in_words; name = s.1 }

  -- an alias
  record AliasHere (d : Decl) : Type 0 where
    pub t : Ty
    same : d ≡ Alias (decl_name d) t
    typed : Typed S t (at + 1)

  -- kind 4 is an alias
  alias_here : (d : Decl) → DeclAt S d at → ShallowDecl d → get_or S.ks at 0 ≡ 4 → AliasHere d
  unfolding DeclAt ShallowDecl decl_name
  alias_here (Alias x t) s f k = record { t = t; same = refl; typed = record { stands = s.2; few = f } }
  alias_here (Record x fs) s f k = absurd (omega (arith, s.0.kind))
  alias_here (Enum x vs) s f k = absurd (omega (arith, s.0.kind))

  -- a record
  record RecordHere (d : Decl) : Type 0 where
    fs : List Port
    same : d ≡ Record (decl_name d) fs
    listed : Listed S fs (at + 1)

  -- kind 5 is a record
  record_here : (d : Decl) → DeclAt S d at → ShallowDecl d → get_or S.ks at 0 ≡ 5 → RecordHere d
  unfolding DeclAt ShallowDecl decl_name
  record_here (Alias x t) s f k = absurd (omega (arith, s.0.kind))
  record_here (Record x fs) s f k = record { fs = fs; same = refl; listed = record { stand = s.2; few = f } }
  record_here (Enum x vs) s f k = absurd (omega (arith, s.0.kind))

  -- an enum
  pub record EnumHere (d : Decl) : Type 0 where
    pub vs : List Name
    pub same : d ≡ Enum (decl_name d) vs

  -- any other is an enum
  enum_here : (d : Decl) → DeclAt S d at → (get_or S.ks at 0 ≡ 4 → ⊥) → (get_or S.ks at 0 ≡ 5 → ⊥) → EnumHere d
  unfolding DeclAt decl_name
  enum_here (Alias x t) s f k = absurd (f s.0.kind)
  enum_here (Record x fs) s f k = absurd (k s.0.kind)
  enum_here (Enum x vs) s f k = record { vs = vs; same = refl }

module _ {ks ws : List ℕ} {at : ℕ} (g : TypeGiven ks ws at) where
  -- the record and the name of the type given
  pub head : DeclHead (records g.model) at g.d
  head = decl_head (records g.model) at g.d g.stands

  -- the enum at the record
  pub enum_at : (get_or ks at 0 ≡ 4 → ⊥) → (get_or ks at 0 ≡ 5 → ⊥) → EnumHere (records g.model) at g.d
  enum_at a b = enum_here (records g.model) at g.d g.stands a b

  -- and what its variants ask
  abbrev pub enum_given : EnumHere (records g.model) at g.d → EnumGiven ws at
  enum_given N = record { ks = ks; model = g.model; x = decl_name g.d; vs = N.vs; stands = rw N.same at g.stands }

module _ {ks ws : List ℕ} {at : ℕ} (g : TypeGiven ks ws at) {w : ℕ} (word : w ≡ get_or ws at 0) where
  -- it is a name's number
  small : w < 512
  small = rw word (head g).name.small

  -- its text is the type's name
  named : g.model.text w ≡ decl_name g.d
  named = rw word (head g).name.text

  -- the number of its name
  pub name_number : g.model.number (decl_name g.d) ≡ w
  name_number = ap g.model.number (sym named) ∙ g.model.back w

  -- the set of names with this one
  names_next : {known known' : List ℕ} (ds : List Decl) → Connected known 0 w known' → Holds g.model.text (map decl_name ds) known → Holds g.model.text (map decl_name (ds ++ (g.d ∷ []))) known'
  names_next ds c h =
      holds_same
      (λ x. rw (map-append decl_name ds (g.d ∷ []), named) (sym (mem_snoc ◌is◌ x (decl_name g.d) (map decl_name ds))))
      (holds_add (apart g.model) small c h)

  -- the line of the name
  first_line : {pack : ℕ} {q : Spot} {known : List ℕ} {o o₁ : Lines} (ds : List Decl) → Spotted q 0 pack
      → Noted g.model.number q (if has known 0 w then about 6 (decl_name g.d) ∷ [] else []) o o₁ → Holds g.model.text (map decl_name ds) known
      → (seen : List Name) → SameNames seen (map decl_name ds) → Reports g.model.number (if decl_name g.d among seen then line at_package pack (about 6 (decl_name g.d)) ∷ [] else []) o o₁
  unfolding place_number
  first_line {known = known} ds s d h seen same =
      let e : has known 0 w ≡ (decl_name g.d among seen) = h.each w small ∙ ap (λ (y : Name). y among map decl_name ds) named ∙ sym (same (decl_name g.d)) in
      repeated at_package 6 (decl_name g.d) (decl_name g.d among seen) s (rw e at d)

  -- what the call has entered and written
  abbrev pub DeclaredType : (pack number : ℕ) (ds : List Decl) (sc nums known : List ℕ) (o o' : Lines) → Type 0
  DeclaredType pack number ds sc nums known o o' = Entered g.model (ds ++ (g.d ∷ [])) sc nums known × ((seen variants : List Name) → SameNames seen (map decl_name ds) → SameNames variants (map (λ e. e.0) (variants_of ds)) → Reports g.model.number (one_type pack number seen variants g.d) o o')

  module _ {pack number : ℕ} {q : Spot} {o o₁ : Lines} {sc nums known known' : List ℕ} (ds : List Decl) (count : length ds ≡ number) (s : Spotted q 0 pack)
      (d : Noted g.model.number q (if has known 0 w then about 6 (decl_name g.d) ∷ [] else []) o o₁) (c : Connected known 0 w known') (E : Entered g.model ds sc nums known) where
    -- no line behind that of the name
    name_only : variants_in g.d ≡ [] → (seen variants : List Name) → SameNames seen (map decl_name ds) → Reports g.model.number (one_type pack number seen variants g.d) o o₁
    unfolding repeated_variants
    name_only e seen variants h =
        rw (e, append-nil (if decl_name g.d among seen then line at_package pack (about 6 (decl_name g.d)) ∷ [] else []))
        (first_line ds s d E.names seen h)

    -- an alias
    pub alias_entered : get_or ks at 0 ≡ 4 → length nums ≡ 512 → DeclaredType pack number ds (set sc w (at + 1)) (set nums w (number + 1)) known' o o₁
    unfolding variants_in
    alias_entered k room =
        let A = alias_here (records g.model) at g.d g.stands g.shallow k in
        let e : g.d ≡ Alias (g.model.text w) A.t = A.same ∙ ap (λ (x : Name). Alias x A.t) (sym named) in
        let G = alias_grown ds g.d (g.model.text w) A.t e in
        let z : w + 0 ≡ w = omega arith in
        let r : Numbers g.model (ds ++ (g.d ∷ [])) (set nums (w + 0) (number + 1)) =
        rw (G.numbers, count) (row_set nums 0 w number (alias_numbers 0 ds) number (apart g.model) (omega (arith, small)) refl E.numbers) in (
          record {
            tables = rw (G.aliases, G.fields, G.variants, append-nil (records_of ds), append-nil (variants_of ds)) (tables_alias w at A.t (apart g.model) small A.typed E.tables);
            numbers = rw z at r;
            names = names_next ds c E.names;
          },
          λ seen variants h _. name_only (rw e) seen variants h,
        )

    -- a record
    pub record_entered : get_or ks at 0 ≡ 5 → DeclaredType pack number ds (set sc (w + 512) (at + 1)) nums known' o o₁
    unfolding variants_in
    record_entered k =
        let R = record_here (records g.model) at g.d g.stands g.shallow k in
        let e : g.d ≡ Record (g.model.text w) R.fs = R.same ∙ ap (λ (x : Name). Record x R.fs) (sym named) in
        let G = record_grown ds g.d (g.model.text w) R.fs e in (
          record {
            tables = rw (G.aliases, G.fields, G.variants, append-nil (aliases_of ds), append-nil (variants_of ds)) (tables_record w at R.fs (apart g.model) small R.listed E.tables);
            numbers = rw (G.numbers, append-nil (alias_numbers 0 ds)) E.numbers;
            names = names_next ds c E.names;
          },
          λ seen variants h _. name_only (rw e) seen variants h,
        )

    -- an enum, once its variants are entered
    pub enum_entered : (N : EnumHere (records g.model) at g.d) {sc' : List ℕ} {o₂ : Lines}
        → Tables (records g.model) (aliases_of ds) (records_of ds) (variants_of ds ++ map (λ v. (v, decl_name g.d)) N.vs) [] [] [] sc' × ((seen : List Name) → SameNames seen (map (λ e. e.0) (variants_of ds)) → Reports g.model.number (repeated_variants number seen N.vs) o₁ o₂)
        → DeclaredType pack number ds sc' nums known' o o₂
    unfolding variants_in
    enum_entered N D =
        let G = enum_grown ds g.d (decl_name g.d) N.vs N.same in
        let e : variants_in g.d ≡ N.vs = rw N.same in (
          record {
            tables = rw (G.aliases, G.fields, G.variants, append-nil (aliases_of ds), append-nil (records_of ds)) D.0;
            numbers = rw (G.numbers, append-nil (alias_numbers 0 ds)) E.numbers;
            names = names_next ds c E.names;
          },
          λ seen variants h v.
              rw e (reports_append g.model.number (if decl_name g.d among seen then line at_package pack (about 6 (decl_name g.d)) ∷ [] else []) (repeated_variants number variants N.vs) (first_line ds s d E.names seen h) (D.1 variants v)),
        )
