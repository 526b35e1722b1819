-- To the next match, or to the end of the bytes.
use Rattle.std.proofs.Common.{◌≡◌, ℕ, ◌+◌, ◌-◌, ◌*◌, ◌<◌, ◌≤◌, max, Bool, List, length, map, sym, ◌∙◌, ap, subst, arith}
use Rattle.std.specs.Prelude.{Option, None, Some}
use Rattle.aho_core.specs.Laws.{Fits, longest, shortest, told}
use Rattle.aho_core.specs.Occurrence.{Occurrence}
use Rattle.aho_core.specs.Patterns.{Patterns}
use Rattle.aho_core.specs.declared.search.Anchored.TheVariants.{No}
use Rattle.aho_core.specs.declared.search.MatchKind.TheVariants.{Standard}
use Rattle.aho_automaton.specs.Overlaps.{ended}
use Rattle.aho_automaton.proofs.Places.{length_part}
use Rattle.aho_cover.specs.declared.progress.CoverProgress.{CoverProgress}
use Rattle.aho_cover.specs.Counting.{Output, put_on}
use Rattle.aho_cover.specs.Feeds.{Feeding}
use Rattle.aho_cover.specs.Pieces.{PieceRule}
use Rattle.aho_cover.specs.Progress.{EndsNext, HasCovered, IsBeginning, IsGiven, IsSoundCover, open_place, walk_end}
use Rattle.aho_cover.specs.Steps.{CoversOn}
use Rattle.aho_cover.specs.Walks.{LiesAhead, Reaches, StandsIn}
use Rattle.aho_cover.specs.Words.{counted_of, ending_with, first_listed, kept_with}
use Rattle.aho_cover.specs.Writes.{WritesOn}
use Rattle.aho_cover.proofs.Further.{stands-fits}
use Rattle.aho_cover.proofs.Reached.{lies-ahead, listed-here, moved-all, moved-behind, moved-end, moved-found, moved-next, moved-unfed, sound-moved}
use Rattle.aho_cover.proofs.Written.{on_err, writes_nothing, writes_still, writes_with}
use Rattle.aho_cover.proofs.steps.walk_once.Given.{Over}
use Rattle.aho_cover.proofs.steps.walk_once.Goals.{After-walk_to_match-reached, In_ok-join}
use Rattle.aho_cover.proofs.steps.walk_once.Goals as goal

pub walk_to_match-reached-requires-clause-ahead : goal.walk_to_match-reached-requires-clause-ahead
walk_to_match-reached-requires-clause-ahead g c =
    let (p, haystack, written, (covers, fed)) = c.requires.can.stands in
    let has = covers.covered in
    (p, haystack, lies-ahead g.A.Automaton c.args.walk.now.automaton.now (g.P.Pieces.rule c.args.pieces.now) c.args.progress.now c.args.at c.walk_end.result c.bytes-bytes.result.now p haystack written covers (c.bytes-bytes.ensures.part haystack has.given) (omega (arith, c.requires.further, c.walk_end.ensures.end)) (omega (arith, c.walk_end.ensures.end)))

-- what the pieces hold, before the walk and after it
abbrev Holds : (g : Over) (c : After-walk_to_match-reached g) → List ℕ → Type 0
Holds g c = g.P.Pieces.holds c.args.pieces.now

-- so much was covered before the walk
abbrev Before : (g : Over) (c : After-walk_to_match-reached g) → Patterns → List ℕ → Output → Type 0
Before g c p haystack written = CoversOn g.A.Automaton c.args.walk.now.automaton.now (g.P.Pieces.rule c.args.pieces.now) c.args.progress.now c.args.at p haystack written

-- the progress with what was reached
abbrev reached_by : (g : Over) (c : After-walk_to_match-reached g) → CoverProgress
reached_by g c = record c.args.progress.now { sid = c.walk_to_match-reached.result.sid }

module _ (g : Over) (c : After-walk_to_match-reached g) (p : Patterns) (haystack : List ℕ) (written : Output) (covers : Before g c p haystack written) where
  -- the bytes lie ahead, and what was reached
  ahead : LiesAhead g.A.Automaton c.args.walk.now.automaton.now c.args.at c.args.progress.now.sid c.bytes-bytes.result.now p haystack
  ahead =
      lies-ahead g.A.Automaton c.args.walk.now.automaton.now (g.P.Pieces.rule c.args.pieces.now) c.args.progress.now c.args.at c.walk_end.result c.bytes-bytes.result.now p haystack written covers
      (c.bytes-bytes.ensures.part haystack covers.covered.given) (omega (arith, c.requires.further, c.walk_end.ensures.end)) (omega (arith, c.walk_end.ensures.end))

  within_end : c.args.at + c.walk_to_match-reached.result.count ≤ walk_end c.args.progress.now
  within_end = omega (arith, c.walk_to_match-reached.ensures.within, ap length (c.bytes-bytes.ensures.part haystack covers.covered.given), length_part haystack c.args.at c.walk_end.result (omega (arith, c.walk_end.ensures.end, covers.covered.given.within)), c.requires.further, c.walk_end.ensures.end)

  within : c.args.at + c.walk_to_match-reached.result.count ≤ c.args.progress.now.read
  within = omega (arith, within_end)

  reaches : Reaches g.A.Automaton c.args.walk.now.automaton.now p haystack c.args.at c.walk_to_match-reached.result
  reaches = c.walk_to_match-reached.ensures.reaches p haystack ahead

  -- what counts and ends there is what was found
  counted : (found : Option Occurrence) → ((text : List ℕ) → IsGiven (reached_by g c) text
      → found ≡ first_listed (counted_of c.args.progress.now.words text (map (ended (g.A.Automaton.lengths c.args.automaton.now) (c.args.at + c.walk_to_match-reached.result.count)) (g.A.Automaton.list c.args.automaton.now c.walk_to_match-reached.result.sid))))
      → first_listed (ending_with c.args.progress.now.words p haystack (c.args.at + c.walk_to_match-reached.result.count)) ≡ found
  counted found is =
      let a = g.A.Automaton in
      let automaton = c.args.walk.now.automaton.now in
      let words = c.args.progress.now.words in
      let next : ℕ = c.args.at + c.walk_to_match-reached.result.count in
      let sid = c.walk_to_match-reached.result.sid in
      let has = covers.covered in
      let given : IsGiven (reached_by g c) haystack = record { within = has.given.within; last = has.given.last; whole = has.given.whole } in
      let listed = listed-here a automaton p c.requires.can.standard (g.met.A.Automaton.laws automaton p covers.of) haystack next sid reaches.stands in
      sym (is haystack given
      ∙ ap (λ x. first_listed (counted_of words haystack (map (ended (a.lengths x) next) (a.list x sid)))) (sym c.requires.own)
      ∙ ap (λ (list : List Occurrence). first_listed (counted_of words haystack list)) listed)

  to_end : first_listed (ending_with c.args.progress.now.words p haystack (c.args.at + c.walk_to_match-reached.result.count)) ≡ None → CoversOn g.A.Automaton c.args.walk.now.automaton.now (g.P.Pieces.rule c.args.pieces.now) (reached_by g c) (c.args.at + c.walk_to_match-reached.result.count) p haystack written
  to_end none =
      moved-all g.A.Automaton c.args.walk.now.automaton.now p c.requires.can.standard (g.met.A.Automaton.laws c.args.walk.now.automaton.now p covers.of) haystack (g.P.Pieces.rule c.args.pieces.now) c.args.progress.now c.args.at written covers c.walk_to_match-reached.result within reaches none

  module _ (m : Occurrence) (some : first_listed (ending_with c.args.progress.now.words p haystack (c.args.at + c.walk_to_match-reached.result.count)) ≡ Some m) where
    unfed : c.args.progress.now.fed ≤ m.start
    unfed =
        moved-unfed g.A.Automaton c.args.walk.now.automaton.now p c.requires.can.standard (g.met.A.Automaton.laws c.args.walk.now.automaton.now p covers.of) haystack (g.P.Pieces.rule c.args.pieces.now) c.args.progress.now c.args.at written covers c.walk_to_match-reached.result within reaches m some c.requires.can.no_empty c.walk_to_match-reached.ensures.some

    ends : m.end ≡ c.args.at + c.walk_to_match-reached.result.count
    ends =
        moved-end g.A.Automaton c.args.walk.now.automaton.now p c.requires.can.standard (g.met.A.Automaton.laws c.args.walk.now.automaton.now p covers.of) haystack (g.P.Pieces.rule c.args.pieces.now) c.args.progress.now c.args.at written covers c.walk_to_match-reached.result within reaches m some c.requires.can.no_empty c.walk_to_match-reached.ensures.some

    full : m.start < m.end
    full =
        (moved-found g.A.Automaton c.args.walk.now.automaton.now p c.requires.can.standard (g.met.A.Automaton.laws c.args.walk.now.automaton.now p covers.of) haystack (g.P.Pieces.rule c.args.pieces.now) c.args.progress.now c.args.at written covers c.walk_to_match-reached.result within reaches m some c.requires.can.no_empty c.walk_to_match-reached.ensures.some).1

    behind : max c.args.progress.now.copied (open_place (reached_by g c) (m.end - 1)) ≤ m.start
    behind =
        moved-behind g.A.Automaton c.args.walk.now.automaton.now p c.requires.can.standard (g.met.A.Automaton.laws c.args.walk.now.automaton.now p covers.of) haystack (g.P.Pieces.rule c.args.pieces.now) c.args.progress.now c.args.at written covers c.walk_to_match-reached.result within reaches m some c.requires.can.no_empty c.walk_to_match-reached.ensures.some

    next_match : EndsNext (g.P.Pieces.rule c.args.pieces.now) (reached_by g c) m p haystack written × (g.A.Automaton.is_of c.args.walk.now.automaton.now p × StandsIn g.A.Automaton c.args.walk.now.automaton.now p haystack c.walk_to_match-reached.result.sid m.end)
    next_match =
        moved-next g.A.Automaton c.args.walk.now.automaton.now p c.requires.can.standard (g.met.A.Automaton.laws c.args.walk.now.automaton.now p covers.of) haystack (g.P.Pieces.rule c.args.pieces.now) c.args.progress.now c.args.at written covers c.walk_to_match-reached.result within reaches m some c.requires.can.no_empty c.walk_to_match-reached.ensures.some

-- of the matches that end there the longest that counts is asked for
pub longest_counted-requires-clause-valid : goal.longest_counted-requires-clause-valid
longest_counted-requires-clause-valid g c = subst (λ x. g.A.Automaton.valid x c.walk_to_match-reached.result.sid) c.requires.own c.walk_to_match-reached.ensures.valid

pub longest_counted-requires-clause-fits : goal.longest_counted-requires-clause-fits
longest_counted-requires-clause-fits g c =
    let d = (goal.at.longest_counted-requires-clause-fits g c).After-walk_to_match-reached in
    let a = g.A.Automaton in
    let automaton = c.args.walk.now.automaton.now in
    let r = c.walk_to_match-reached.result in
    let (p, haystack, written, (covers, fed)) = c.requires.can.stands in
    subst (λ x. Fits (a.lengths x) (c.args.at + r.count) (a.list x r.sid)) c.requires.own
    (stands-fits a automaton p haystack (g.met.A.Automaton.laws automaton p covers.of) (c.args.at + r.count) r.sid (reaches g d p haystack written covers).stands)

pub longest_counted-requires-clause-told : goal.longest_counted-requires-clause-told
longest_counted-requires-clause-told g c =
    let d = (goal.at.longest_counted-requires-clause-told g c).After-walk_to_match-reached in
    let a = g.A.Automaton in
    let r = c.walk_to_match-reached.result in
    let (p, haystack, written, (covers, fed)) = c.requires.can.stands in
    subst (λ x. r.found ≡ told (a.lengths x) No 0 (c.args.at + r.count) (a.list x r.sid)) c.requires.own (reaches g d p haystack written covers).told_is

pub longest_counted-requires-clause-some : goal.longest_counted-requires-clause-some
longest_counted-requires-clause-some g c = omega (arith, c.walk_to_match-reached.ensures.some)

pub longest_counted-requires-clause-known : goal.longest_counted-requires-clause-known
longest_counted-requires-clause-known g c =
    let d = (goal.at.longest_counted-requires-clause-known g c).After-walk_to_match-reached in
    let (p, haystack, written, (covers, fed)) = c.requires.can.stands in
    within_end g d p haystack written covers

pub longest_counted-requires-clause-held : goal.longest_counted-requires-clause-held
longest_counted-requires-clause-held g c = λ words.
    let a = g.A.Automaton in
    let automaton = c.args.walk.now.automaton.now in
    let s = c.args.progress.now in
    let r = c.walk_to_match-reached.result in
    let (p, haystack, written, (covers, fed)) = c.requires.can.stands in
    let laws = g.met.A.Automaton.laws automaton p covers.of in
    let far : s.buffer.least ≡ max 1 (longest (map length p.words) + 1) = covers.covered.far ∙ ap (λ (w : Bool). kept_with w (map length p.words)) words in
    subst (λ x. s.read ≤ ((c.args.at + r.count) - (longest (a.lengths x) + 1)) + length s.buffer.bytes) c.requires.own
    (omega (arith, c.requires.sound.last_held, far, ap longest laws.lengths_are, c.walk_to_match-reached.ensures.some))

-- no further than may be walked
pub returns-in_default-clause-within : goal.returns-in_default-clause-within
returns-in_default-clause-within g c =
    let d = (goal.at.returns-in_default-clause-within g c).After-walk_to_match-reached in
    let (p, haystack, written, (covers, fed)) = c.requires.can.stands in
    within_end g d p haystack written covers

pub returns-clause-within : goal.returns-clause-within
returns-clause-within g c =
    let d = (goal.at.returns-clause-within g c).After-walk_to_match-reached in
    let (p, haystack, written, (covers, fed)) = c.requires.can.stands in
    within_end g d p haystack written covers

-- no byte was written
pub returns-in_default-clause-sound : goal.returns-in_default-clause-sound
returns-in_default-clause-sound g c =
    let d = (goal.at.returns-in_default-clause-sound g c).After-walk_to_match-reached in
    let (p, haystack, written, (covers, fed)) = c.requires.can.stands in
    let r = c.walk_to_match-reached.result in
    sound-moved c.args.progress.now c.args.at (c.args.at + r.count) r.sid c.args.progress.now.since c.requires.sound (omega arith) (within g d p haystack written covers)
    (omega (arith, c.requires.sound.since_walked))

pub returns-in_default-clause-can : goal.returns-in_default-clause-can
returns-in_default-clause-can g c =
    let d = (goal.at.returns-in_default-clause-can g c).After-walk_to_match-reached in
    let a = g.A.Automaton in
    let s = c.args.progress.now in
    let r = c.walk_to_match-reached.result in
    let back = sym c.walk_to_match-reached.ensures.same in
    let (p, haystack, written, (covers, fed)) = c.requires.can.stands in
    record {
      standard = subst (λ x. a.kind x ≡ Standard) back c.requires.can.standard;
      no_empty = subst (λ x. 1 ≤ shortest (a.lengths x)) back c.requires.can.no_empty;
      is_state = subst (λ x. a.valid x r.sid) back c.walk_to_match-reached.ensures.valid;
      cheap = subst (λ x. c.walk_to_match-reached.new.walk.work + a.depth x r.sid ≤ 2 * (c.args.at + r.count)) back (omega (arith, c.walk_to_match-reached.ensures.cost, c.requires.can.cheap));
      stands = (p, haystack, written, (subst (λ x. CoversOn a x (g.P.Pieces.rule c.args.pieces.now) (reached_by g d) (c.args.at + r.count) p haystack written) back (to_end g d p haystack written covers (counted g d p haystack written covers None c.in_default.ensures.first)), fed));
    }

pub returns-in_default-clause-writes : goal.returns-in_default-clause-writes
returns-in_default-clause-writes g c =
    let d = (goal.at.returns-in_default-clause-writes g c).After-walk_to_match-reached in
    writes_nothing g.W.Sink c.args.sink.now c.args.counts.now _ _ (λ p haystack written covers. (to_end g d p haystack written covers.0 (counted g d p haystack written covers.0 None c.in_default.ensures.first), covers.1))

pub join-requires-clause-sound : goal.join-requires-clause-sound
join-requires-clause-sound g c =
    let d = (goal.at.join-requires-clause-sound g c).After-walk_to_match-reached in
    let (p, haystack, written, (covers, fed)) = c.requires.can.stands in
    let r = c.walk_to_match-reached.result in
    let m = c.in-Some.m in
    let last = ends g d p haystack written covers m (counted g d p haystack written covers (Some m) c.in-Some.ensures.first) in
    sound-moved c.args.progress.now c.args.at (m.end - 1) r.sid c.args.progress.now.since c.requires.sound (omega (arith, last, c.walk_to_match-reached.ensures.some)) (omega (arith, last, within g d p haystack written covers))
    (omega (arith, last, c.requires.sound.since_walked, c.walk_to_match-reached.ensures.some))

pub join-requires-clause-some : goal.join-requires-clause-some
join-requires-clause-some g c =
    let (p, haystack, written, (covers, fed)) = c.requires.can.stands in
    let d = (goal.at.join-requires-clause-some g c).After-walk_to_match-reached in
    full g d p haystack written covers c.in-Some.m (counted g d p haystack written covers (Some c.in-Some.m) c.in-Some.ensures.first)

pub join-requires-clause-read : goal.join-requires-clause-read
join-requires-clause-read g c =
    let d = (goal.at.join-requires-clause-read g c).After-walk_to_match-reached in
    let (p, haystack, written, (covers, fed)) = c.requires.can.stands in
    omega (arith, ends g d p haystack written covers c.in-Some.m (counted g d p haystack written covers (Some c.in-Some.m) c.in-Some.ensures.first), within g d p haystack written covers)

pub join-requires-clause-behind : goal.join-requires-clause-behind
join-requires-clause-behind g c =
    let (p, haystack, written, (covers, fed)) = c.requires.can.stands in
    let d = (goal.at.join-requires-clause-behind g c).After-walk_to_match-reached in
    behind g d p haystack written covers c.in-Some.m (counted g d p haystack written covers (Some c.in-Some.m) c.in-Some.ensures.first)

pub join-requires-clause-unfed : goal.join-requires-clause-unfed
join-requires-clause-unfed g c =
    let (p, haystack, written, (covers, fed)) = c.requires.can.stands in
    let d = (goal.at.join-requires-clause-unfed g c).After-walk_to_match-reached in
    unfed g d p haystack written covers c.in-Some.m (counted g d p haystack written covers (Some c.in-Some.m) c.in-Some.ensures.first)

pub returns-in_err-join-clause-begins : goal.returns-in_err-join-clause-begins
returns-in_err-join-clause-begins g c =
    let d = (goal.at.returns-in_err-join-clause-begins g c).After-walk_to_match-reached in
    let rule = g.P.Pieces.rule c.args.pieces.now in
    on_err c.from_residual.result _
    (writes_still (Feeding (Holds g d) c.args.progress.now (Before g d)) (IsBeginning c.args.progress.now.words rule)
    (λ p haystack written covers. ((next_match g d p haystack written covers.0 c.in-Some.m (counted g d p haystack written covers.0 (Some c.in-Some.m) c.in-Some.ensures.first)).0.0, covers.1)) (λ p haystack written begins. begins) c.in_err-join.ensures.begins)

-- the match was joined
wrote : (g : Over) (c : In_ok-join g)
    → WritesOn g.W.Sink c.args.sink.now c.join.new.sink c.args.counts.now c.join.new.counts
    (Feeding (g.P.Pieces.holds c.args.pieces.now) c.args.progress.now (CoversOn g.A.Automaton c.args.walk.now.automaton.now (g.P.Pieces.rule c.args.pieces.now) c.args.progress.now c.args.at))
    (Feeding (g.P.Pieces.holds c.join.new.pieces) c.join.new.self (CoversOn g.A.Automaton c.args.walk.now.automaton.now (g.P.Pieces.rule c.args.pieces.now) c.join.new.self (c.args.at + c.walk_to_match-reached.result.count)))
wrote g c =
    let d = (goal.at.returns-clause-writes g c).After-walk_to_match-reached in
    let a = g.A.Automaton in
    let automaton = c.args.walk.now.automaton.now in
    let rule = g.P.Pieces.rule c.args.pieces.now in
    let m = c.in-Some.m in
    let r = c.walk_to_match-reached.result in
    let new = c.join.new.self in
    let (first, whole, begun, (stands, fed)) = c.requires.can.stands in
    let last : m.end ≡ c.args.at + r.count = ends g d first whole begun stands m (counted g d first whole begun stands (Some m) c.in-Some.ensures.first) in
    let sid : new.sid ≡ r.sid = ap (λ (s : CoverProgress). s.sid) c.in_ok-join.ensures.others in
    writes_still (Feeding (Holds g d) c.args.progress.now (Before g d)) (Feeding (g.P.Pieces.holds c.join.new.pieces) new (CoversOn a automaton rule new (c.args.at + r.count)))
    (λ p haystack written covers.
    let next = next_match g d p haystack written covers.0 m (counted g d p haystack written covers.0 (Some m) c.in-Some.ensures.first) in
    ((next.0, covers.1), next.1))
    (λ p haystack written h. (
      record {
        of = h.1.0;
        is_held = subst (λ (n : ℕ). StandsIn a automaton p haystack new.sid n) last (subst (λ (sid : ℕ). StandsIn a automaton p haystack sid m.end) (sym sid) h.1.1);
        covered = subst (λ (n : ℕ). HasCovered rule new n p haystack written) last h.0.0;
      },
      h.0.1,
    ))
    (writes_with (λ p haystack. a.is_of automaton p × StandsIn a automaton p haystack r.sid m.end) c.in_ok-join.ensures.writes)

pub returns-clause-writes : goal.returns-clause-writes
returns-clause-writes g c = wrote g c

pub returns-clause-sound : goal.returns-clause-sound
returns-clause-sound g c =
    let d = (goal.at.returns-clause-sound g c).After-walk_to_match-reached in
    let (first, whole, begun, (stands, fed)) = c.requires.can.stands in
    subst (IsSoundCover c.join.new.self) (ends g d first whole begun stands c.in-Some.m (counted g d first whole begun stands (Some c.in-Some.m) c.in-Some.ensures.first)) c.in_ok-join.ensures.sound

pub returns-clause-can : goal.returns-clause-can
returns-clause-can g c =
    let a = g.A.Automaton in
    let r = c.walk_to_match-reached.result in
    let new = c.join.new.self in
    let rule = g.P.Pieces.rule c.args.pieces.now in
    let back = sym c.walk_to_match-reached.ensures.same in
    let sid : r.sid ≡ new.sid = sym (ap (λ (s : CoverProgress). s.sid) c.in_ok-join.ensures.others) in
    let writes = wrote g c in
    let (p, haystack, written, (covers, fed)) = c.requires.can.stands in
    record {
      standard = subst (λ x. a.kind x ≡ Standard) back c.requires.can.standard;
      no_empty = subst (λ x. 1 ≤ shortest (a.lengths x)) back c.requires.can.no_empty;
      is_state = subst (λ x. a.valid x new.sid) back (subst (a.valid c.args.walk.now.automaton.now) sid c.walk_to_match-reached.ensures.valid);
      cheap = subst (λ x. c.walk_to_match-reached.new.walk.work + a.depth x new.sid ≤ 2 * (c.args.at + r.count)) back
          (subst (λ (n : ℕ). c.walk_to_match-reached.new.walk.work + a.depth c.args.walk.now.automaton.now n ≤ 2 * (c.args.at + r.count)) sid (omega (arith, c.walk_to_match-reached.ensures.cost, c.requires.can.cheap)));
      stands = (
        p,
        haystack,
        put_on written writes.bytes writes.runs,
        subst (λ (made : PieceRule). Feeding (g.P.Pieces.holds c.join.new.pieces) new (CoversOn a c.walk_to_match-reached.new.walk.automaton.now made new (c.args.at + r.count)) p haystack (put_on written writes.bytes writes.runs)) (sym c.in_ok-join.ensures.rule)
            (subst (λ x. Feeding (g.P.Pieces.holds c.join.new.pieces) new (CoversOn a x rule new (c.args.at + r.count)) p haystack (put_on written writes.bytes writes.runs)) back (writes.follows p haystack written (covers, fed))),
      );
    }

-- two look-ups for each byte pay for it
cheap : (g : Over) (c : After-walk_to_match-reached g) → c.walk_to_match-reached.new.walk.work ≤ 2 * c.args.progress.now.read
cheap g c =
    let (p, haystack, written, (covers, fed)) = c.requires.can.stands in
    omega (arith, c.walk_to_match-reached.ensures.cost, c.requires.can.cheap, within g c p haystack written covers)

pub returns-in_default-clause-cheap : goal.returns-in_default-clause-cheap
returns-in_default-clause-cheap g c =
    let d = (goal.at.returns-in_default-clause-cheap g c).After-walk_to_match-reached in
    cheap g d

pub returns-in_err-join-clause-cheap : goal.returns-in_err-join-clause-cheap
returns-in_err-join-clause-cheap g c =
    let d = (goal.at.returns-in_err-join-clause-cheap g c).After-walk_to_match-reached in
    cheap g d

pub returns-clause-cheap : goal.returns-clause-cheap
returns-clause-cheap g c =
    let d = (goal.at.returns-clause-cheap g c).After-walk_to_match-reached in
    cheap g d
