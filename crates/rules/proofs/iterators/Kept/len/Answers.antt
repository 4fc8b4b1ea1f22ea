-- `rules::iterators::Kept::len` meets its contract. Assumes nothing.
use mathlib.Core.Path.{◌≡◌, refl, ◌∙◌}
use Rattle.std.specs.Prelude as code
use Rattle.std.specs.Prelude.{Some, None, List, ℕ}
use Rattle.std.proofs.Common.{rules}
use Rattle.std.proofs.lemmas.Option.{MatchOption-at_none, MatchOption-at_some}
use Rattle.lustre.specs.Types.{Ty}
use Rattle.lustre.specs.Infer.{first_length}
use Rattle.rules.specs.Flags.{First}
use Rattle.types.specs.Value.{Naming}
use Rattle.rules.specs.declared.iterators.Array.{Array}
use Rattle.rules.proofs.IteratorLaws.{first_kept}
use Rattle.rules.proofs.iterators.Kept.len.Goals as goal

pub returns : goal.returns
returns c = λ ρ ds f. go ρ ds c.args.self.now.first refl f
  where
    go : (ρ : Naming) (ds : List (ℕ × Ty)) (w : code.Option Array) → c.args.self.now.first ≡ w → First ρ ds w → c.map_or.result ≡ first_length ds
    go ρ ds None e f = MatchOption-at_none _ _ e c.map_or.ensures ∙ first_kept ρ ds None f
    go ρ ds (Some x) e f = let h = MatchOption-at_some _ _ x e c.map_or.ensures in let k : c.map_or.result ≡ x.len = search rules in k ∙ first_kept ρ ds (Some x) f
