-- Bytes are passed over, and then the walk goes on.
use Rattle.std.proofs.Common.{◌≡◌, ℕ, ◌+◌, ◌*◌, ◌≤◌, Bool, List, sym, ◌∙◌, ap, subst, arith}
use Rattle.aho_core.specs.Patterns.{Patterns}
use Rattle.std.specs.Prelude.{IfOk, Result, Ok, Err, slice_range}
use Rattle.aho_cover.specs.declared.progress.CoverProgress.{CoverProgress}
use Rattle.aho_cover.specs.Counting.{Output}
use Rattle.aho_cover.specs.Feeds.{Feeding}
use Rattle.aho_cover.specs.Hand.{room_in}
use Rattle.aho_cover.specs.Progress.{IsBeginning, walk_end}
use Rattle.aho_cover.specs.Steps.{CoversOn}
use Rattle.aho_cover.proofs.Written.{if_err, if_ok, writes_still}
use Rattle.aho_cover.proofs.steps.walk_further.Given.{Over}
use Rattle.aho_cover.proofs.steps.walk_further.Goals.{After-skip-next}
use Rattle.aho_cover.proofs.steps.walk_further.Goals as goal

-- what follows for what a call answers
ok_more : {X E : Type 0} (r : Result X E) (P Q : X → Type 0) → ((x : X) → P x → Q x) → IfOk r P → IfOk r Q
ok_more (Ok x) P Q f h = f x h
ok_more (Err e) P Q f h = tt

pub skip-next-requires-clause-can : goal.skip-next-requires-clause-can
skip-next-requires-clause-can g c =
    let can = c.requires.can in
    let (p, haystack, written, both) = can.stands in
    (g.P.Pieces.rule c.args.pieces.now, record { standard = can.standard; no_empty = can.no_empty; is_state = can.is_state; cheap = can.cheap; stands = (p, haystack, written, (both.0, tt)) })

-- what was fed is the same
passed : (g : Over) (c : After-skip-next g) (p : Patterns) (haystack : List ℕ) (written : Output)
    → Feeding (g.P.Pieces.holds c.args.pieces.now) c.args.progress.now (CoversOn g.A.Automaton c.args.walk.now.automaton.now (g.P.Pieces.rule c.args.pieces.now) c.args.progress.now c.args.at) p haystack written
    → Feeding (g.P.Pieces.holds c.args.pieces.now) c.skip-next.new.progress (CoversOn g.A.Automaton c.args.walk.now.automaton.now (g.P.Pieces.rule c.args.pieces.now) c.skip-next.new.progress c.skip-next.result) p haystack written
passed g c p haystack written both = (
  c.skip-next.ensures.passes (g.P.Pieces.rule c.args.pieces.now) p haystack written both.0,
  subst (λ (s : CoverProgress). g.P.Pieces.holds c.args.pieces.now (slice_range haystack s.copied s.fed)) (sym c.skip-next.ensures.only) both.1,
)

pub walk_once-requires-clause-further : goal.walk_once-requires-clause-further
walk_once-requires-clause-further g c = omega (arith, c.skip-next.ensures.further, ap walk_end c.skip-next.ensures.only)

pub walk_once-requires-clause-can : goal.walk_once-requires-clause-can
walk_once-requires-clause-can g c =
    let a = g.A.Automaton in
    let automaton = c.args.walk.now.automaton.now in
    let can = c.requires.can in
    let (p, haystack, written, covers) = can.stands in
    let sid : c.args.progress.now.sid ≡ c.skip-next.new.progress.sid = sym (ap (λ (s : CoverProgress). s.sid) c.skip-next.ensures.only) in
    record {
      standard = can.standard;
      no_empty = can.no_empty;
      is_state = subst (a.valid automaton) sid can.is_state;
      cheap = subst (λ (n : ℕ). c.args.walk.now.work + a.depth automaton n ≤ 2 * c.skip-next.result) sid (omega (arith, can.cheap, c.skip-next.ensures.on));
      stands = (p, haystack, written, passed g (goal.at.walk_once-requires-clause-can g c).After-skip-next p haystack written covers);
    }

pub returns-clause-further : goal.returns-clause-further
returns-clause-further g c = ok_more c.walk_once.result _ _ (λ next on. omega (arith, on, c.skip-next.ensures.on)) c.walk_once.ensures.further

pub returns-clause-within : goal.returns-clause-within
returns-clause-within g c = ok_more c.walk_once.result _ _ (λ next low. omega (arith, low, ap walk_end c.skip-next.ensures.only)) c.walk_once.ensures.within

pub returns-clause-bytes : goal.returns-clause-bytes
returns-clause-bytes g c =
    if_ok c.walk_once.result _ _ (λ keeps. record {
      read = keeps.read ∙ ap (λ (s : CoverProgress). s.read) c.skip-next.ensures.only;
      buffer = keeps.buffer ∙ ap (λ (s : CoverProgress). s.buffer) c.skip-next.ensures.only;
      words = keeps.words ∙ ap (λ (s : CoverProgress). s.words) c.skip-next.ensures.only;
      ended = keeps.ended ∙ ap (λ (s : CoverProgress). s.ended) c.skip-next.ensures.only;
    }) c.walk_once.ensures.bytes

pub returns-clause-room : goal.returns-clause-room
returns-clause-room g c =
    let only = c.skip-next.ensures.only in
    let keeps = c.walk_once.ensures.room in
    record { least = keeps.least ∙ ap (λ (s : CoverProgress). s.buffer.least) only; room = keeps.room ∙ ap (λ (s : CoverProgress). room_in s.hand) only }

pub returns-clause-writes : goal.returns-clause-writes
returns-clause-writes g c =
    let passes = passed g (goal.at.returns-clause-writes g c).After-skip-next in
    ok_more c.walk_once.result _ _ (λ next more. writes_still _ _ passes (λ p haystack written covers. covers) more) c.walk_once.ensures.writes

pub returns-clause-begins : goal.returns-clause-begins
returns-clause-begins g c =
    let passes = passed g (goal.at.returns-clause-begins g c).After-skip-next in
    let words : c.skip-next.new.progress.words ≡ c.args.progress.now.words = ap (λ (s : CoverProgress). s.words) c.skip-next.ensures.only in
    if_err c.walk_once.result _ _
    (λ more. writes_still _ _ passes (λ p haystack written begins. subst (λ (w : Bool). IsBeginning w (g.P.Pieces.rule c.args.pieces.now) p haystack written) words begins) more) c.walk_once.ensures.begins
