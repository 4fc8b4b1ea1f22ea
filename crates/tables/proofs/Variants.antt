-- The variants of an enum entered one by one.
-- Assumes nothing.
use Rattle.std.specs.Prelude.{if◌then◌else◌}
use Prim.Native.Nat.{ℕ, ◌+◌, ◌-◌, ◌≤◌, ◌<◌}
use native.Mathlib.Omega.{arith}
use mathlib.Core.Path.{◌≡◌, refl, sym, ◌∙◌, ap}
use mathlib.Core.Bool.{not}
use mathlib.Core.List.{List, [], ◌∷◌, ◌++◌, map, append_assoc, append-nil}
use lib.Dec.{eqb}
use lib.ListN.{length, get_or, set, take, drop}
use Rattle.lustre.specs.Name.{Name, ◌among◌}
use Rattle.lustre.specs.Types.{Ty}
use Rattle.lustre.specs.Project.{Port, Heading}
use Rattle.lustre.specs.Line.{at_enum, about}
use Rattle.lustre.specs.Answer.{place_number}
use Rattle.lustre.specs.Report.{line, repeated_variants}
use Rattle.lines.specs.Lines.{Noted}
use Rattle.lines.specs.declared.Spot.{Spot}
use Rattle.lines.specs.declared.Lines.{Lines}
use Rattle.standing.specs.Standing.{Source, EachAt, MentionAt, one_record, DeclAt, RecAt, NameAt, NamesAt}
use Rattle.rules.specs.World.{EnumAt}
use Rattle.scope.specs.Names.{NamesHere}
use Rattle.scope.specs.Tables.{records, Tables}
use Rattle.scope.specs.Writes.{Reports}
use Rattle.scope.proofs.Names.{names_inside, names_many, first_at}
use Rattle.scope.proofs.Rows.{tables_variant, found_among}
use Rattle.scope.proofs.World.{apart}
use Rattle.scope.proofs.Writes.{reports_none, reports_append}
use Rattle.tables.specs.Entered.{SameNames, EnumGiven}
use Rattle.tables.proofs.Repeats.{Spotted, repeated_entry, same_snoc}

module _ {ws : List ℕ} {at : ℕ} (g : EnumGiven ws at) where
  -- the model's records
  abbrev pub here : Source
  here = records g.model

  -- the enum's record
  pub enum_head : RecAt here at 6
  unfolding DeclAt
  enum_head = g.stands.0

  -- its name
  pub enum_name : NameAt here at g.x
  unfolding DeclAt
  enum_name = g.stands.1

  -- its variants behind it
  pub enum_list : NamesAt here g.vs (at + 1)
  unfolding DeclAt
  enum_list = g.stands.2

  -- the same as a list of names
  pub enum_names : NamesHere ws (at + 1)
  enum_names = record { ks = g.ks; text = g.model.text; xs = g.vs; listed = enum_list }

  -- which lie within the words
  pub variants_inside : at + 2 + get_or ws (at + 1) 0 ≤ length ws
  variants_inside = omega (arith, names_inside enum_names)

  -- the word with index i of the part that has them
  pub variant_word : (i : ℕ) → i < get_or ws (at + 1) 0 → get_or (take (at + 2 + get_or ws (at + 1) 0 - (at + 2)) (drop (at + 2) ws)) i 0 ≡ get_or ws (at + 2 + i) 0
  variant_word i h = let z : at + 1 + 1 ≡ at + 2 = omega arith in rw z at (first_at enum_names {k = get_or ws (at + 1) 0} i h)

  -- and how many they are
  pub variant_count : length (take (at + 2 + get_or ws (at + 1) 0 - (at + 2)) (drop (at + 2) ws)) ≡ get_or ws (at + 1) 0
  variant_count = let z : at + 1 + 1 ≡ at + 2 = omega arith in rw z at (names_many enum_names)

  -- what an entry for one of its variants leads to
  enum_here : EnumAt here at g.x
  enum_here = record { head = enum_head; name = enum_name }

  -- so many variants are left, from a record on
  pub record Left (left next : ℕ) : Type 0 where
    pub rest : List Name
    pub many : left ≡ length rest
    pub items : EachAt (MentionAt here) one_record rest next

  -- at first all are
  abbrev pub left_start : {left : ℕ} → left ≡ get_or ws (at + 1) 0 → Left left (at + 2 + 0)
  left_start e = let z : at + 1 + 1 ≡ at + 2 + 0 = omega arith in record { rest = g.vs; many = e ∙ enum_list.many; items = rw z at enum_list.items }

  -- a variant and the rest
  pub record First (left next : ℕ) (rest : List Name) : Type 0 where
    pub v : Name
    pub later : List Name
    pub are : rest ≡ v ∷ later
    pub mention : MentionAt here v next
    pub many : left ≡ length later + 1
    pub items : EachAt (MentionAt here) one_record later (next + 1)

  -- those behind it
  abbrev pub left_next : {left left' next next' : ℕ} {rest : List Name} → First left next rest → left' + 1 ≡ left → next + 1 ≡ next' → Left left' next'
  left_next F e n = record { rest = F.later; many = omega (arith, F.many); items = rw n at F.items }

  -- where some are left there is a first
  pub left_first : {left next : ℕ} (l : Left left next) → 0 < left → First left next l.rest
  unfolding EachAt
  left_first {left} {next} l h = go l.rest l.many l.items
    where
      go : (rest : List Name) → left ≡ length rest → EachAt (MentionAt here) one_record rest next → First left next rest
      go [] e i = absurd (omega arith)
      go (v ∷ later) e i = record { v = v; later = later; are = refl; mention = i.0; many = omega arith; items = i.1 }

  -- where these lists were entered before, the variants but those that are left are entered, and the lines of the rest complete the report
  pub record Entering (number : ℕ) (as' : List (Name × Ty)) (rs : List (Name × List Port)) (us : List (Name × Name)) (cs : List (Name × Ty)) (ns : List (Name × Heading)) (env : List Port) (o : Lines) (rest : List Name) (sc : List ℕ) (o₁ : Lines) : Type 0 where
    pub us₁ : List (Name × Name)
    pub tables : Tables here as' rs us₁ cs ns env sc
    pub whole : us₁ ++ map (λ v. (v, g.x)) rest ≡ us ++ map (λ v. (v, g.x)) g.vs
    pub lines : (seen : List Name) → SameNames seen (map (λ e. e.0) us)
        → (seen₁ : List Name) × SameNames seen₁ (map (λ e. e.0) us₁)
        × ((o' : Lines) → Reports g.model.number (repeated_variants number seen₁ rest) o₁ o' → Reports g.model.number (repeated_variants number seen g.vs) o o')

  module _ {number : ℕ} {as' : List (Name × Ty)} {rs : List (Name × List Port)} {us : List (Name × Name)} {cs : List (Name × Ty)} {ns : List (Name × Heading)} {env : List Port} {o : Lines} where
    -- before the first variant
    pub entering_start : {sc : List ℕ} → Tables here as' rs us cs ns env sc → Entering number as' rs us cs ns env o g.vs sc o
    entering_start {sc} T = record { us₁ = us; tables = T; whole = refl; lines = λ seen h. (seen, h, λ o' d. d) }

    -- behind the last
    pub entering_done : {sc : List ℕ} {o₁ : Lines} (rest : List Name) → rest ≡ [] → Entering number as' rs us cs ns env o rest sc o₁
        → Tables here as' rs (us ++ map (λ v. (v, g.x)) g.vs) cs ns env sc × ((seen : List Name) → SameNames seen (map (λ e. e.0) us) → Reports g.model.number (repeated_variants number seen g.vs) o o₁)
    unfolding repeated_variants
    entering_done {sc} {o₁} rest e E =
        let z : E.us₁ ≡ us ++ map (λ v. (v, g.x)) g.vs = sym (append-nil E.us₁) ∙ rw e at E.whole in
        (rw z at E.tables, λ seen h. (let l = E.lines seen h in l.2 o₁ (rw e (reports_none g.model.number))))

    -- one variant
    pub entering_next : {sc sc' : List ℕ} {o₁ o₂ : Lines} {q : Spot} (w : ℕ) (x : Name) (rest later : List Name) → rest ≡ x ∷ later → w < 512 → here.text w ≡ x → Spotted q 1 number
        → Noted g.model.number q (if eqb (get_or sc (w + 1024) 0) 0 then [] else about 7 (here.text w) ∷ []) o₁ o₂
        → sc' ≡ set sc (w + 1024) (at + 1)
        → Entering number as' rs us cs ns env o rest sc o₁ → Entering number as' rs us cs ns env o later sc' o₂
    unfolding repeated_variants place_number
    entering_next {sc} {sc'} {o₁} {o₂} w x rest later e' small named s d is E =
        let v : Name = here.text w in
        let e : rest ≡ v ∷ later = e' ∙ ap (λ (y : Name). y ∷ later) (sym named) in
        record {
          us₁ = E.us₁ ++ ((v, g.x) ∷ []);
          tables = rw is (tables_variant w at g.x (apart g.model) small enum_here E.tables);
          whole = append_assoc E.us₁ ((v, g.x) ∷ []) (map (λ v. (v, g.x)) later) ∙ rw e at E.whole;
          lines = λ seen h.
              let l = E.lines seen h in
              let b : eqb (get_or sc (w + 1024) 0) 0 ≡ not (v among l.0) = found_among v E.us₁ (E.tables.variant w small) ∙ ap not (sym (l.1 v)) in (
                v ∷ l.0,
                same_snoc v g.x l.0 E.us₁ l.1,
                λ o' f. l.2 o' (rw e (reports_append g.model.number (if v among l.0 then line at_enum number (about 7 v) ∷ [] else []) (repeated_variants number (v ∷ l.0) later) (repeated_entry at_enum 7 v (v among l.0) (eqb (get_or sc (w + 1024) 0) 0) b s d) f)),
              );
        }

  -- none is left
  pub left_none : {left next : ℕ} (l : Left left next) → left ≡ 0 → l.rest ≡ []
  left_none {left} {next} l h = go l.rest l.many
    where
      go : (rest : List Name) → left ≡ length rest → rest ≡ []
      go [] e = refl
      go (v ∷ later) e = absurd (omega arith)
