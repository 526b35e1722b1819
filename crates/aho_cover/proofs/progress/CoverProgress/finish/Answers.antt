-- All runs, and then the bytes behind them.
use Rattle.std.proofs.Common.{◌≡◌, ℕ, ◌+◌, max, Bool, List, length, sym, ◌∙◌, ap, subst, arith}
use Rattle.aho_core.specs.Patterns.{Patterns}
use Rattle.aho_cover.specs.declared.progress.CoverProgress.{CoverProgress}
use Rattle.aho_cover.specs.Counting.{Output}
use Rattle.aho_cover.specs.Feeds.{Feeding}
use Rattle.aho_cover.specs.Hand.{held_runs}
use Rattle.aho_cover.specs.Progress.{ClearlyCovered, EndsHere, HasCovered, IsAll, IsBeginning, outside_end}
use Rattle.aho_cover.specs.Walks.{NoneReaches}
use Rattle.aho_cover.specs.Writes.{WritesOn}
use Rattle.aho_cover.proofs.Covered.{has-all}
use Rattle.aho_cover.proofs.Sound.{none-left}
use Rattle.aho_cover.proofs.Written.{if_both, if_err, on_err, writes_still, writes_then, writes_with}
use Rattle.aho_cover.proofs.progress.CoverProgress.finish.Given.{Over}
use Rattle.aho_cover.proofs.progress.CoverProgress.finish.Goals.{After-write_outside}
use Rattle.aho_cover.proofs.progress.CoverProgress.finish.Goals as goal

-- nothing ends behind the end
clear_end : (p : Patterns) (haystack : List ℕ) (end place : ℕ) → length haystack ≡ end → NoneReaches p haystack end place
clear_end p haystack end place ended m occurs later = absurd (omega (arith, occurs.before_end))

pub returns-in_err-settle-clause-begins : goal.returns-in_err-settle-clause-begins
returns-in_err-settle-clause-begins g c =
    let s = c.args.self.now in
    let rule = g.P.Pieces.rule c.args.pieces.now in
    on_err c.from_residual.result _
    (writes_still (Feeding (g.P.Pieces.holds c.args.pieces.now) s (EndsHere rule s)) (IsBeginning s.words rule) (λ p haystack written h. ((h.0.0, clear_end p haystack s.read (s.read + 1) h.0.1), h.1)) (λ p haystack written begins. begins) (c.in_err-settle.ensures.begins s.read))

pub write_outside-requires : goal.write_outside-requires
write_outside-requires g c = record { sound = (c.args.self.now.read, c.in_ok-settle.ensures.sound c.args.self.now.read c.requires.sound, omega arith) }

-- what was written of the runs
first : (g : Over) (c : After-write_outside g)
    → WritesOn g.W.Sink c.args.sink.now c.settle.new.sink c.args.counts.now c.settle.new.counts (Feeding (g.P.Pieces.holds c.args.pieces.now) c.args.self.now (EndsHere (g.P.Pieces.rule c.args.pieces.now) c.args.self.now))
    (λ p haystack written. ClearlyCovered (g.P.Pieces.rule c.args.pieces.now) c.settle.new.self c.args.self.now.read c.args.self.now.read p haystack written × (length haystack ≡ c.args.self.now.read))
first g c =
    let s = c.args.self.now in
    let rule = g.P.Pieces.rule c.args.pieces.now in
    writes_still (Feeding (g.P.Pieces.holds c.args.pieces.now) s (EndsHere rule s)) (λ p haystack written. ClearlyCovered rule c.settle.new.self s.read s.read p haystack written × (length haystack ≡ s.read))
    (λ p haystack written h. (((h.0.0, clear_end p haystack s.read (s.read + 1) h.0.1), h.1), h.0.1))
    (λ p haystack written h. ((h.0.0.0, clear_end p haystack s.read s.read h.1), h.1))
    (writes_with (λ p haystack. length haystack ≡ s.read) (c.in_ok-settle.ensures.writes s.read))

-- and then it is all
all : (g : Over) (c : After-write_outside g) → c.write_outside.new.self ≡ record c.settle.new.self { copied = max c.settle.new.self.copied (outside_end c.args.self.now.read (held_runs c.settle.new.self.hand)) }
    → (p : Patterns) (haystack : List ℕ) (written : Output) → HasCovered (g.P.Pieces.rule c.args.pieces.now) c.write_outside.new.self c.args.self.now.read p haystack written × (length haystack ≡ c.args.self.now.read) → IsAll c.args.self.now.words (g.P.Pieces.rule c.args.pieces.now) p haystack written
all g c is p haystack written h =
    let s = c.settle.new.self in
    let read = c.args.self.now.read in
    let rule = g.P.Pieces.rule c.args.pieces.now in
    let sound = c.in_ok-settle.ensures.sound read c.requires.sound in
    let none = none-left s read sound c.in_ok-settle.ensures.last in
    let copied = max s.copied (outside_end read (held_runs s.hand)) in
    let same : s.read ≡ read = ap (λ (s' : CoverProgress). s'.read) c.in_ok-settle.ensures.others in
    let upto : outside_end read (held_runs s.hand) ≡ read = ap (outside_end read) none in
    subst (λ (w : Bool). IsAll w rule p haystack written) (ap (λ (s' : CoverProgress). s'.words) c.in_ok-settle.ensures.others)
    (has-all p haystack rule (record s { copied = copied }) written
    (subst (λ (at : ℕ). HasCovered rule (record s { copied = copied }) at p haystack written) (sym same) (subst (λ (s' : CoverProgress). HasCovered rule s' read p haystack written) is h.0))
    (h.1 ∙ sym same) none (omega (arith, sound.copied_walked, upto, same)))

pub returns-clause-covers : goal.returns-clause-covers
returns-clause-covers g c =
    let d = (goal.at.returns-clause-covers g c).After-write_outside in
    let s = c.args.self.now in
    let rule = g.P.Pieces.rule c.args.pieces.now in
    if_both c.write_outside.result _ _ _ (λ is more.
    writes_still (Feeding (g.P.Pieces.holds c.args.pieces.now) s (EndsHere rule s)) (IsAll s.words rule) (λ p haystack written h. h) (all g d is) (writes_then (first g d) (writes_with (λ p haystack. length haystack ≡ s.read) (more s.read rule c.settle.new.counts))))
    c.write_outside.ensures.copied c.write_outside.ensures.writes

pub returns-clause-begins : goal.returns-clause-begins
returns-clause-begins g c =
    let d = (goal.at.returns-clause-begins g c).After-write_outside in
    let s = c.args.self.now in
    let rule = g.P.Pieces.rule c.args.pieces.now in
    if_err c.write_outside.result _ _ (λ more.
    writes_still (Feeding (g.P.Pieces.holds c.args.pieces.now) s (EndsHere rule s)) (IsBeginning s.words rule) (λ p haystack written h. h)
    (λ p haystack written h. subst (λ (w : Bool). IsBeginning w rule p haystack written) (ap (λ (s' : CoverProgress). s'.words) c.in_ok-settle.ensures.others) h.0) (writes_then (first g d) (writes_with (λ p haystack. length haystack ≡ s.read) (more s.read rule c.settle.new.counts))))
    c.write_outside.ensures.begins
