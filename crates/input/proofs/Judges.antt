-- A law for each return of the code that its definitions alone do not prove: what it answers is the lowest refusal that applies, or that none
-- does and whether the file is blank. Assumes nothing.
use Prim.Native.Nat.{ℕ, ◌≤◌}
use mathlib.Core.Path.{◌≡◌, refl, ap, ◌∙◌}
use mathlib.Core.List.{List}
use mathlib.Core.Option as maybe
use mathlib.Core.Bool.{true, false}
use lib.ListN.{length}
use Rattle.std.proofs.Common.{None, Some, Result, Ok, Err}
use Rattle.lustre.specs.Names.{bad_name, names_of, name_at}
use Rattle.lustre.specs.Name.{mem}
use Rattle.lustre.specs.Records.{word_classes, class_in, word_class, is_known, bad_record, spell}
use Rattle.lustre.specs.Answer.{lowest, refuse, record_refusal, unless_refused, bad_sizes, short_work, spelled, is_blank, no_project, too_deep_at}
use Rattle.lustre.proofs.Lowest.{sizes_pass, work_passes}
use Rattle.lustre.proofs.Blank.{read_as_lent, blank_passes}
use Rattle.names.specs.Scan as Scan
use Rattle.records.specs.Tables.{placed, structured, Structured}
use Rattle.input.specs.Input.{Checked, passing, judged, unless_bad, JudgedRecords}
use Rattle.lustre.specs.declared.Refusal.{Refusal}
use Rattle.lustre.specs.declared.Refusal.TheVariants.{BadName, NoProject, TooDeep}

-- no record has kind 0
pub no_kind : is_known (word_class 0) ≡ false
unfolding is_known word_class class_in word_classes mem
no_kind = refl

-- where no refusal before 4 applies and the file is not blank, the records decide
records_decide : (kinds words text : List ℕ) (work : ℕ) → bad_sizes kinds words text ≡ maybe.none → short_work work ≡ maybe.none → is_blank kinds text ≡ false → bad_name text ≡ maybe.none
    → lowest kinds words text work
    ≡ refuse (bad_record (length (names_of text)) 0 kinds words) (record_refusal kinds) (refuse (no_project (spelled kinds words text)) NoProject (refuse (too_deep_at (spelled kinds words text)) TooDeep maybe.none))
unfolding lowest refuse
records_decide kinds words text work sizes enough full named = rw (sizes, refuse, enough, refuse, named, read_as_lent kinds words text full)

module _ (kinds words : List ℕ) (names : ℕ) where
  -- if there is a bad record, refusal 4 or 8 applies
  pub record_refused : (at : ℕ) → Some at ≡ placed (bad_record names 0 kinds words) → (r : Refusal) → r ≡ record_refusal kinds at → JudgedRecords kinds words names (Err r)
  unfolding judged refuse unless_refused
  record_refused at e r q text work sizes enough full named n = rw (records_decide kinds words text work sizes enough full named, n, q) (go (bad_record names 0 kinds words) _ _ e)
    where
      go : (o : maybe.Option ℕ) (next : maybe.Option Refusal) (own : Checked) → Some at ≡ placed o → Err (record_refusal kinds at) ≡ unless_refused (refuse o (record_refusal kinds) next) Err own
      go maybe.none next own e = cc
      go (maybe.some k) next own e = let z : at ≡ k = cc in ap (λ (i : ℕ). Err (record_refusal kinds i)) z

  -- if there is none, the structure of the records decides
  pub structure_judged : None ≡ placed (bad_record names 0 kinds words) → (r : Result (Unit {0}) Refusal) → Structured kinds words r → JudgedRecords kinds words names r
  unfolding judged passing spelled refuse unless_refused
  structure_judged e r h text work sizes enough full named n =
      let ρ = name_at (names_of text) in
      rw (records_decide kinds words text work sizes enough full named, full, n)
      (ap (unless_bad names) (h ρ) ∙ go (bad_record names 0 kinds words) (no_project (spell ρ kinds words)) (too_deep_at (spell ρ kinds words)) e)
    where
      go : (a b c : maybe.Option ℕ) → None ≡ placed a → unless_bad names (structured b c) ≡ unless_refused (refuse a (record_refusal kinds) (refuse b NoProject (refuse c TooDeep maybe.none))) Err (Ok (Some names))
      go maybe.none maybe.none maybe.none e = refl
      go maybe.none maybe.none (maybe.some at) e = refl
      go maybe.none (maybe.some at) c e = refl
      go (maybe.some at) b c e = cc

-- sizes that are in order, and enough work memory
module _ (kinds words text : List ℕ) (work : ℕ) (e : length kinds ≡ length words) (f : length kinds ≤ 4096) (g : length text ≤ 16384) (w : 4096 ≤ work) where
  sizes_fit : bad_sizes kinds words text ≡ maybe.none
  sizes_fit = sizes_pass kinds words text e f g

  -- no refusal applies to a blank file
  pub blank_judged : is_blank kinds text ≡ true → Ok None ≡ judged kinds words text work
  unfolding judged passing unless_refused
  blank_judged b = rw (blank_passes kinds words text b work sizes_fit (work_passes work w), unless_refused, b)

  module _ (full : is_blank kinds text ≡ false) where
    -- refusal 3 applies where the check of the text answers a bad name
    pub name_refused : (r : Refusal) → Err r ≡ Scan.checked text → Err r ≡ judged kinds words text work
    unfolding judged lowest unless_refused refuse Scan.checked
    name_refused r c = rw (sizes_fit, refuse, work_passes work w, refuse) (go (bad_name text) _ _ c)
      where
        go : (o : maybe.Option ℕ) (next : maybe.Option Refusal) (own : Checked) → Err r ≡ Scan.judged o (length (names_of text)) → Err r ≡ unless_refused (refuse o BadName next) Err own
        go maybe.none next own c = cc
        go (maybe.some k) next own c = cc

    -- the answer to the records is the answer where it answers the number of names
    pub records_judged : (n : ℕ) → Ok n ≡ Scan.checked text → (r : Result (Unit {0}) Refusal) → JudgedRecords kinds words n r → unless_bad n r ≡ judged kinds words text work
    unfolding Scan.checked
    records_judged n c r h = go (bad_name text) refl c
      where
        go : (o : maybe.Option ℕ) → bad_name text ≡ o → Ok n ≡ Scan.judged o (length (names_of text)) → unless_bad n r ≡ judged kinds words text work
        go maybe.none named c = let z : length (names_of text) ≡ n = cc in h text work sizes_fit (work_passes work w) full named z
        go (maybe.some k) named c = cc
