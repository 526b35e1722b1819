-- The bytes that no run holds.
use Rattle.std.proofs.Common.{ℕ, max, List, [], take, refl, sym, ap, subst, arith}
use Rattle.aho_core.specs.Patterns.{Patterns}
use Rattle.aho_cover.specs.Counting.{put_on}
use Rattle.aho_cover.specs.Progress.{HasCovered, IsBeginning}
use Rattle.aho_cover.specs.Walks.{NoneReaches}
use Rattle.aho_cover.proofs.Counted.{counts_none}
use Rattle.aho_cover.proofs.Covered.{begins_before, has-begun, has-copied}
use Rattle.aho_cover.proofs.Sound.{outside-held, outside-within, sound-outside}
use Rattle.aho_cover.proofs.Written.{on_err}
use Rattle.aho_cover.proofs.progress.CoverProgress.write_outside.Given.{Over}
use Rattle.aho_cover.proofs.progress.CoverProgress.write_outside.Goals.{After-outside_end-end}
use Rattle.aho_cover.proofs.progress.CoverProgress.write_outside.Goals as goal

pub gap-requires-clause-held : goal.gap-requires-clause-held
gap-requires-clause-held g c =
    let sound = c.requires.sound in
    λ some. outside-held c.args.self.now sound.0 sound.1 c.args.place (omega (arith, some, c.outside_end-end.ensures.end))

-- what ends later begins behind its end
clear_end : (g : Over) (c : After-outside_end-end g) (at : ℕ) (p : Patterns) (haystack : List ℕ) → NoneReaches p haystack at c.args.place → NoneReaches p haystack at c.outside_end-end.result
clear_end g c at p haystack clear m occurs later =
    let sound = c.requires.sound in
    omega (arith, clear m occurs later, c.outside_end-end.ensures.end, outside-within c.args.self.now sound.0 sound.1 c.args.place)

pub returns-in_err-write_whole-clause-begins : goal.returns-in_err-write_whole-clause-begins
returns-in_err-write_whole-clause-begins g c =
    let d = (goal.at.returns-in_err-write_whole-clause-begins g c).After-outside_end-end in
    let s = c.args.self.now in
    let end = c.outside_end-end.result in
    let some = c.in_err-write_whole.ensures.beginning in
    let sound = c.requires.sound in
    let copied = max s.copied end in
    let after = sound-outside s sound.0 sound.1 c.args.place copied sound.2 (ap (max s.copied) c.outside_end-end.ensures.end) in
    on_err c.from_residual.result _ (λ at rule counts. record {
      bytes = take some.0 c.gap.result.now;
      appends = some.2;
      runs = [];
      counted = counts_none counts;
      follows = λ p haystack written before.
          let bytes = c.gap.ensures.part haystack before.0.given in
          let next = has-copied p haystack rule s at written end copied before.0 refl (clear_end g d at p haystack before.1) in
          begins_before p haystack rule s.words written c.gap.result.now some.0 some.1 (has-begun p haystack rule s at written before.0 sound.1.behind)
          (subst (λ (xs : List ℕ). IsBeginning s.words rule p haystack (put_on written xs [])) (sym bytes) (has-begun p haystack rule (record s { copied = copied }) at _ next after.behind));
    })

pub returns-clause-writes : goal.returns-clause-writes
returns-clause-writes g c = λ at rule counts.
    let d = (goal.at.returns-clause-writes g c).After-outside_end-end in
    let s = c.args.self.now in
    let end = c.outside_end-end.result in
    let copied = c.max-self.result in
    record {
      bytes = c.gap.result.now;
      appends = c.in_ok-write_whole.ensures.whole;
      runs = [];
      counted = counts_none counts;
      follows = λ p haystack written before.
          let bytes = c.gap.ensures.part haystack before.0.given in
          let next = has-copied p haystack rule s at written end copied before.0 (omega (arith, c.max-self.ensures)) (clear_end g d at p haystack before.1) in
          subst (λ (xs : List ℕ). HasCovered rule (record s { copied = copied }) at p haystack (put_on written xs [])) (sym bytes) next;
    }
