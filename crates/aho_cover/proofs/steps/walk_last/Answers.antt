-- What is left is walked, and then written.
use Rattle.std.proofs.Common.{◌≡◌, ℕ, ◌+◌, ◌*◌, ◌≤◌, Bool, true, List, length, sym, ◌∙◌, ap, subst, arith}
use Rattle.aho_core.specs.Patterns.{Patterns}
use Rattle.aho_cover.specs.declared.progress.CoverProgress.{CoverProgress}
use Rattle.aho_cover.specs.Counting.{Output}
use Rattle.aho_cover.specs.Feeds.{Feeding}
use Rattle.aho_cover.specs.Progress.{EndsHere, HasCovered, IsAll, IsBeginning, IsSoundCover, walk_end}
use Rattle.aho_cover.specs.Steps.{CoversOn, CoversToEnd}
use Rattle.aho_cover.specs.Writes.{WritesOn}
use Rattle.aho_cover.proofs.Ended.{covers-ended, end-seen, sound-ended}
use Rattle.aho_cover.proofs.Written.{if_err, if_ok, on_err, writes_still, writes_then, writes_with}
use Rattle.aho_cover.proofs.steps.walk_last.Given.{Over}
use Rattle.aho_cover.proofs.steps.walk_last.Goals.{After-see_end, In_ok-walk_read}
use Rattle.aho_cover.proofs.steps.walk_last.Goals as goal

-- the same with the end seen
ended : (g : Over) (c : After-see_end g) (p : Patterns) (haystack : List ℕ) (written : Output) → CoversToEnd g.A.Automaton c.args.walk.now.automaton.now (g.P.Pieces.rule c.args.pieces.now) (g.P.Pieces.holds c.args.pieces.now) c.args.progress.now c.args.at p haystack written
    → Feeding (g.P.Pieces.holds c.args.pieces.now) c.see_end.new.self (CoversOn g.A.Automaton c.args.walk.now.automaton.now (g.P.Pieces.rule c.args.pieces.now) c.see_end.new.self c.args.at) p haystack written
ended g c p haystack written covers =
    subst (λ (s : CoverProgress). Feeding (g.P.Pieces.holds c.args.pieces.now) s (CoversOn g.A.Automaton c.args.walk.now.automaton.now (g.P.Pieces.rule c.args.pieces.now) s c.args.at) p haystack written) (sym c.see_end.ensures.only)
    (covers-ended g.A.Automaton c.args.walk.now.automaton.now (g.P.Pieces.rule c.args.pieces.now) c.args.progress.now c.args.at p haystack written covers.0.0 covers.1, covers.0.1)

seen : (g : Over) (c : After-see_end g) → c.see_end.new.self.ended ≡ true
seen g c = ap (λ (s : CoverProgress). s.ended) c.see_end.ensures.only

pub walk_read-requires-clause-sound : goal.walk_read-requires-clause-sound
walk_read-requires-clause-sound g c = subst (λ (s : CoverProgress). IsSoundCover s c.args.at) (sym c.see_end.ensures.only) (sound-ended c.args.progress.now c.args.at c.requires.sound)

pub walk_read-requires-clause-within : goal.walk_read-requires-clause-within
walk_read-requires-clause-within g c =
    omega (arith, c.requires.sound.walked, ap (λ (s : CoverProgress). s.read) c.see_end.ensures.only, end-seen c.see_end.new.self (seen g (goal.at.walk_read-requires-clause-within g c).After-see_end))

pub walk_read-requires-clause-can : goal.walk_read-requires-clause-can
walk_read-requires-clause-can g c =
    let a = g.A.Automaton in
    let automaton = c.args.walk.now.automaton.now in
    let can = c.requires.can in
    let sid : c.args.progress.now.sid ≡ c.see_end.new.self.sid = sym (ap (λ (s : CoverProgress). s.sid) c.see_end.ensures.only) in
    let (p, haystack, written, covers) = c.requires.some in
    record {
      standard = can.standard;
      no_empty = can.no_empty;
      is_state = subst (a.valid automaton) sid can.is_state;
      cheap = subst (λ (n : ℕ). c.args.walk.now.work + a.depth automaton n ≤ 2 * c.args.at) sid can.cheap;
      stands = (p, haystack, written, ended g (goal.at.walk_read-requires-clause-can g c).After-see_end p haystack written covers);
    }

-- all was walked
read_all : (g : Over) (c : In_ok-walk_read g) → walk_end c.walk_read.new.progress ≡ c.walk_read.new.progress.read
read_all g c = end-seen c.walk_read.new.progress (c.in_ok-walk_read.ensures.bytes.ended ∙ ap (λ (s : CoverProgress). s.ended) c.see_end.ensures.only)

read_same : (g : Over) (c : In_ok-walk_read g) → c.walk_read.new.progress.read ≡ c.args.progress.now.read
read_same g c = c.in_ok-walk_read.ensures.bytes.read ∙ ap (λ (s : CoverProgress). s.read) c.see_end.ensures.only

words_same : (g : Over) (c : In_ok-walk_read g) → c.walk_read.new.progress.words ≡ c.args.progress.now.words
words_same g c = c.in_ok-walk_read.ensures.bytes.words ∙ ap (λ (s : CoverProgress). s.words) c.see_end.ensures.only

pub finish-requires : goal.finish-requires
finish-requires g c = record { sound = subst (IsSoundCover c.walk_read.new.progress) (read_all g (goal.at.finish-requires g c).In_ok-walk_read) c.in_ok-walk_read.ensures.sound }

pub returns-in_err-walk_read-clause-begins : goal.returns-in_err-walk_read-clause-begins
returns-in_err-walk_read-clause-begins g c =
    let d = (goal.at.returns-in_err-walk_read-clause-begins g c).After-see_end in
    let rule = g.P.Pieces.rule c.args.pieces.now in
    on_err c.from_residual.result _
    (writes_still (CoversToEnd g.A.Automaton c.args.walk.now.automaton.now rule (g.P.Pieces.holds c.args.pieces.now) c.args.progress.now c.args.at) (IsBeginning c.args.progress.now.words rule) (ended g d)
    (λ p haystack written begins. subst (λ (w : Bool). IsBeginning w rule p haystack written) (ap (λ (s : CoverProgress). s.words) c.see_end.ensures.only) begins) c.in_err-walk_read.ensures.begins)

-- what was written on the way
walked : (g : Over) (c : In_ok-walk_read g)
    → ((p : Patterns) (haystack : List ℕ) (written : Output) → CoversToEnd g.A.Automaton c.args.walk.now.automaton.now (g.P.Pieces.rule c.args.pieces.now) (g.P.Pieces.holds c.args.pieces.now) c.args.progress.now c.args.at p haystack written
    → Feeding (g.P.Pieces.holds c.args.pieces.now) c.see_end.new.self (CoversOn g.A.Automaton c.args.walk.now.automaton.now (g.P.Pieces.rule c.args.pieces.now) c.see_end.new.self c.args.at) p haystack written)
    → WritesOn g.W.Sink c.args.sink.now c.walk_read.new.sink c.args.counts.now c.walk_read.new.counts (CoversToEnd g.A.Automaton c.args.walk.now.automaton.now (g.P.Pieces.rule c.args.pieces.now) (g.P.Pieces.holds c.args.pieces.now) c.args.progress.now c.args.at)
    (Feeding (g.P.Pieces.holds c.walk_read.new.pieces) c.walk_read.new.progress (EndsHere (g.P.Pieces.rule c.args.pieces.now) c.walk_read.new.progress))
walked g c at_end =
    let rule = g.P.Pieces.rule c.args.pieces.now in
    let new = c.walk_read.new.progress in
    writes_still (CoversToEnd g.A.Automaton c.args.walk.now.automaton.now rule (g.P.Pieces.holds c.args.pieces.now) c.args.progress.now c.args.at) (Feeding (g.P.Pieces.holds c.walk_read.new.pieces) new (EndsHere rule new))
    (λ p haystack written covers. (at_end p haystack written covers, covers.1))
    (λ p haystack written after. ((subst (λ (n : ℕ). HasCovered rule new n p haystack written) (read_all g c) after.0.0.covered, after.1 ∙ sym (read_same g c)), after.0.1))
    (writes_with (λ p haystack. length haystack ≡ c.args.progress.now.read) c.in_ok-walk_read.ensures.writes)

pub returns-clause-covers : goal.returns-clause-covers
returns-clause-covers g c =
    let d = (goal.at.returns-clause-covers g c).In_ok-walk_read in
    let e = (goal.at.returns-clause-covers g c).After-see_end in
    let rule = g.P.Pieces.rule c.args.pieces.now in
    if_ok c.finish.result _ _
    (λ writes. writes_then (walked g d (ended g e))
    (writes_still _ (IsAll c.args.progress.now.words rule) (λ p haystack written before. before) (λ p haystack written all. subst (λ (w : Bool). IsAll w rule p haystack written) (words_same g d) all)
    (rw c.in_ok-walk_read.ensures.rule at writes))) c.finish.ensures.covers

pub returns-clause-begins : goal.returns-clause-begins
returns-clause-begins g c =
    let d = (goal.at.returns-clause-begins g c).In_ok-walk_read in
    let e = (goal.at.returns-clause-begins g c).After-see_end in
    let rule = g.P.Pieces.rule c.args.pieces.now in
    if_err c.finish.result _ _
    (λ writes. writes_then (walked g d (ended g e))
    (writes_still _ (IsBeginning c.args.progress.now.words rule) (λ p haystack written before. before) (λ p haystack written begins. subst (λ (w : Bool). IsBeginning w rule p haystack written) (words_same g d) begins)
    (rw c.in_ok-walk_read.ensures.rule at writes))) c.finish.ensures.begins
