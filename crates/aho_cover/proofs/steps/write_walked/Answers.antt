-- The walk looks back, and then what is settled is written.
use Rattle.std.proofs.Common.{◌≡◌, ℕ, Bool, List, sym, ◌∙◌, ap, subst, arith}
use Rattle.std.specs.Prelude.{slice_range}
use Rattle.aho_core.specs.Patterns.{Patterns}
use Rattle.aho_cover.specs.declared.progress.CoverProgress.{CoverProgress}
use Rattle.aho_cover.specs.Counting.{Output}
use Rattle.aho_cover.specs.Feeds.{Feeding}
use Rattle.aho_cover.specs.Hand.{room_in}
use Rattle.aho_cover.specs.Progress.{HasCovered, IsBeginning}
use Rattle.aho_cover.specs.Steps.{CoversOn}
use Rattle.aho_cover.specs.Walks.{StandsIn}
use Rattle.aho_cover.specs.Writes.{WritesOn}
use Rattle.aho_cover.proofs.Written.{if_both, if_err, if_ok, writes_still, writes_with}
use Rattle.aho_cover.proofs.steps.write_walked.Given.{Over}
use Rattle.aho_cover.proofs.steps.write_walked.Goals.{After-look_back, After-write_settled}
use Rattle.aho_cover.proofs.steps.write_walked.Goals as goal

pub look_back-requires-clause-can : goal.look_back-requires-clause-can
look_back-requires-clause-can g c =
    let can = c.requires.can in
    let (p, haystack, written, both) = can.stands in
    (g.P.Pieces.rule c.args.pieces.now, record { standard = can.standard; no_empty = can.no_empty; is_state = can.is_state; cheap = can.cheap; stands = (p, haystack, written, (both.0, tt)) })

-- what was fed is the same
passed : (g : Over) (c : After-look_back g) (p : Patterns) (haystack : List ℕ) (written : Output)
    → Feeding (g.P.Pieces.holds c.args.pieces.now) c.args.progress.now (CoversOn g.A.Automaton c.args.walk.now.automaton.now (g.P.Pieces.rule c.args.pieces.now) c.args.progress.now c.args.at) p haystack written
    → Feeding (g.P.Pieces.holds c.args.pieces.now) c.look_back.new.progress (CoversOn g.A.Automaton c.args.walk.now.automaton.now (g.P.Pieces.rule c.args.pieces.now) c.look_back.new.progress c.args.at) p haystack written
passed g c p haystack written both = (
  c.look_back.ensures.passes (g.P.Pieces.rule c.args.pieces.now) p haystack written both.0,
  subst (λ (s : CoverProgress). g.P.Pieces.holds c.args.pieces.now (slice_range haystack s.copied s.fed)) (sym c.look_back.ensures.only) both.1,
)

-- what was written of the bytes that are settled
wrote : (g : Over) (c : After-write_settled g)
    → ((p : Patterns) (haystack : List ℕ) (written : Output) → Feeding (g.P.Pieces.holds c.args.pieces.now) c.args.progress.now (CoversOn g.A.Automaton c.args.walk.now.automaton.now (g.P.Pieces.rule c.args.pieces.now) c.args.progress.now c.args.at) p haystack written
    → Feeding (g.P.Pieces.holds c.args.pieces.now) c.look_back.new.progress (CoversOn g.A.Automaton c.args.walk.now.automaton.now (g.P.Pieces.rule c.args.pieces.now) c.look_back.new.progress c.args.at) p haystack written)
    → c.write_settled.new.self ≡ record c.look_back.new.progress { copied = c.write_settled.new.self.copied; hand = c.write_settled.new.self.hand }
    → WritesOn g.W.Sink c.args.sink.now c.write_settled.new.sink c.args.counts.now c.write_settled.new.counts
    (Feeding (g.P.Pieces.holds c.args.pieces.now) c.look_back.new.progress (HasCovered (g.P.Pieces.rule c.args.pieces.now) c.look_back.new.progress c.args.at))
    (Feeding (g.P.Pieces.holds c.write_settled.new.pieces) c.write_settled.new.self (HasCovered (g.P.Pieces.rule c.args.pieces.now) c.write_settled.new.self c.args.at))
    → WritesOn g.W.Sink c.args.sink.now c.write_settled.new.sink c.args.counts.now c.write_settled.new.counts
    (Feeding (g.P.Pieces.holds c.args.pieces.now) c.args.progress.now (CoversOn g.A.Automaton c.args.walk.now.automaton.now (g.P.Pieces.rule c.args.pieces.now) c.args.progress.now c.args.at))
    (Feeding (g.P.Pieces.holds c.write_settled.new.pieces) c.write_settled.new.self (CoversOn g.A.Automaton c.args.walk.now.automaton.now (g.P.Pieces.rule c.args.pieces.now) c.write_settled.new.self c.args.at))
wrote g c passes others writes =
    let a = g.A.Automaton in
    let automaton = c.args.walk.now.automaton.now in
    let rule = g.P.Pieces.rule c.args.pieces.now in
    let s = c.look_back.new.progress in
    let at = c.args.at in
    let new = c.write_settled.new.self in
    let sid : s.sid ≡ new.sid = sym (ap (λ (s' : CoverProgress). s'.sid) others) in
    writes_still (Feeding (g.P.Pieces.holds c.args.pieces.now) c.args.progress.now (CoversOn a automaton rule c.args.progress.now at)) (Feeding (g.P.Pieces.holds c.write_settled.new.pieces) new (CoversOn a automaton rule new at))
    (λ p haystack written before.
    let covers = passes p haystack written before in
    ((covers.0.covered, covers.1), (covers.0.of, covers.0.is_held)))
    (λ p haystack written h. (record { of = h.1.0; is_held = subst (λ (n : ℕ). StandsIn a automaton p haystack n at) sid h.1.1; covered = h.0.0 }, h.0.1))
    (writes_with (λ p haystack. a.is_of automaton p × StandsIn a automaton p haystack s.sid at) writes)

pub returns-clause-writes : goal.returns-clause-writes
returns-clause-writes g c =
    let d = (goal.at.returns-clause-writes g c).After-write_settled in
    if_both c.write_settled.result _ _ _ (λ others more. wrote g d (passed g (goal.at.returns-clause-writes g c).After-look_back) others more) c.write_settled.ensures.others c.write_settled.ensures.writes

pub returns-clause-begins : goal.returns-clause-begins
returns-clause-begins g c =
    let d = (goal.at.returns-clause-begins g c).After-look_back in
    let rule = g.P.Pieces.rule c.args.pieces.now in
    if_err c.write_settled.result _ _ (λ more.
    writes_still (Feeding (g.P.Pieces.holds c.args.pieces.now) c.args.progress.now (CoversOn g.A.Automaton c.args.walk.now.automaton.now rule c.args.progress.now c.args.at)) (IsBeginning c.args.progress.now.words rule)
    (λ p haystack written before. (let covers = passed g d p haystack written before in (covers.0.covered, covers.1)))
    (λ p haystack written begins. subst (λ (w : Bool). IsBeginning w rule p haystack written) (ap (λ (s : CoverProgress). s.words) c.look_back.ensures.only) begins) more)
    c.write_settled.ensures.begins

pub returns-clause-others : goal.returns-clause-others
returns-clause-others g c =
    let new = c.write_settled.new.self in
    if_ok c.write_settled.result _ _ (λ others.
    let since : new.since ≡ c.look_back.new.progress.since = ap (λ (s : CoverProgress). s.since) others in
    others
    ∙ ap (λ (s : CoverProgress). record s { copied = new.copied; hand = new.hand }) c.look_back.ensures.only
    ∙ ap (λ (n : ℕ). record c.args.progress.now { copied = new.copied; hand = new.hand; since = n }) (sym since)) c.write_settled.ensures.others

pub returns-clause-near : goal.returns-clause-near
returns-clause-near g c =
    let least = ap (λ (s : CoverProgress). s.buffer.least) c.look_back.ensures.only in
    if_ok c.write_settled.result _ _ (λ from place low bare. omega (arith, from place low bare, least)) c.write_settled.ensures.bare

pub returns-clause-prompt : goal.returns-clause-prompt
returns-clause-prompt g c =
    if_ok c.write_settled.result _ _ (λ from place low bare. omega (arith, from place low bare, c.look_back.ensures.reach)) c.write_settled.ensures.bare

pub returns-clause-room : goal.returns-clause-room
returns-clause-room g c =
    let only = c.look_back.ensures.only in
    let keeps = c.write_settled.ensures.room in
    record { least = keeps.least ∙ ap (λ (s : CoverProgress). s.buffer.least) only; room = keeps.room ∙ ap (λ (s : CoverProgress). room_in s.hand) only }
