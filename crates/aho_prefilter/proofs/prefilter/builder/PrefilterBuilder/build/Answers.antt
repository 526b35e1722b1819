use Rattle.std.proofs.Common.{◌≡◌, sym, ap, ◌∙◌}
use Rattle.std.specs.Prelude.{Some}
use Rattle.aho_core.specs.Patterns.{Patterns}
use Rattle.aho_prefilter.specs.Inside.{search_for_few}
use Rattle.aho_prefilter.specs.Prefilter.{held_for}
use Rattle.aho_prefilter.specs.Taken.{HasTaken}
use Rattle.aho_prefilter.proofs.Held.{held_for-bytes, held_for-of, held_for-whole}
use Rattle.aho_prefilter.proofs.prefilter.builder.PrefilterBuilder.build.Goals.{in-Some, in-None}
use Rattle.aho_prefilter.proofs.prefilter.builder.PrefilterBuilder.build.Goals as goal

held : (c : goal.In-Some-searcher) (p : Patterns) → HasTaken c.args.self p → held_for p ≡ Some c.in-Some-searcher.searcher
held c p taken =
    elim c.match-whole.branch [
      | in-Some w ↦
          let whole = sym (rw w.in-Some.is at taken.whole) in
          let made = rw w.new.ensures.bytes at w.searcher-is in
          held_for-whole p w.in-Some.bytes.items whole ∙ sym made ∙ c.in-Some-searcher.is
      | in-None w ↦
          let whole = sym (rw w.in-None.is at taken.whole) in
          held_for-bytes p whole ∙ sym (w.searcher-is ∙ w.search_for-searcher.ensures.search ∙ ap search_for_few taken.first_bytes) ∙ c.in-Some-searcher.is
    ]

pub returns-in-Some-searcher-clause-of : goal.returns-in-Some-searcher-clause-of
returns-in-Some-searcher-clause-of c = λ p taken. held_for-of p c.in-Some-searcher.searcher (held c p taken)
