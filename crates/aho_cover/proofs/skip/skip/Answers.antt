-- Nothing begins in the bytes that are passed over.
use Rattle.std.proofs.Common.{◌≡◌, ℕ, ◌+◌, ◌-◌, ◌≤◌, ◌<◌, List, length, sym, ◌∙◌, ap, subst, arith}
use Rattle.std.specs.Prelude.{IfSome, Option, slice_range}
use Rattle.aho_prefilter.specs.Candidate.{NoneStartsBefore}
use Rattle.aho_prefilter.specs.Prefilter.{IsPrefilterOf}
use Rattle.aho_prefilter.specs.declared.prefilter.Searcher.{Searcher}
use Rattle.aho_automaton.proofs.Places.{length_part}
use Rattle.aho_cover.proofs.Passed.{own-held, passed-over}
use Rattle.aho_cover.proofs.Reached.{sound-moved}
use Rattle.aho_cover.proofs.skip.skip.Goals as goal

pub returns-clause-passes : goal.returns-clause-passes
returns-clause-passes g c rule p haystack written covers =
    let a = g.A.Automaton in
    let automaton = c.args.walk.now.automaton.now in
    let s = c.args.progress.now in
    let count = c.passable-count.result in
    let end = c.walk_end.result in
    let rest : c.bytes-bytes.result.now ≡ slice_range haystack c.args.at end = c.bytes-bytes.ensures.part haystack covers.covered.given in
    let held = own-held (a.skips_streams automaton) (a.prefilter automaton) c.in-Some.prefilter.now c.in-Some.ensures.prefilter in
    let is : IsPrefilterOf c.in-Some.prefilter.now p = subst (λ (held : Option Searcher). IfSome held (λ searcher. IsPrefilterOf searcher p)) held (g.met.A.Automaton.prefilters automaton p covers.of) in
    let none = subst (λ (bytes : List ℕ). NoneStartsBefore p bytes 0 (length bytes) count) rest (c.passable-count.ensures.none p is) in
    let few = subst (λ (bytes : List ℕ). count ≤ length bytes - s.buffer.least) rest (subst (λ (least : ℕ). count ≤ length c.bytes-bytes.result.now - least) c.min_buffer_len.ensures.least c.passable-count.ensures.kept) in
    passed-over a automaton p haystack (g.met.A.Automaton.laws automaton p covers.of) c.requires.can.1.no_empty rule s c.args.at count written covers (sym c.is_start.ensures.starts ∙ c.if-not-is_start.false) end (omega (arith, c.walk_end.ensures.end)) (omega (arith, c.walk_end.ensures.end, c.requires.further)) none few

-- how far it goes
far : (n at read least length-of : ℕ) → n ≤ length-of - least → length-of ≡ read - at → 1 ≤ least → at < read → at + n < read
far n at read least length-of few long some within = omega (arith, few, long, some, within)

pub returns-clause-further : goal.returns-clause-further
returns-clause-further g c =
    let (p, haystack, written, (covers, any)) = c.requires.can.1.stands in
    let s = c.args.progress.now in
    let long = ap length (c.bytes-bytes.ensures.part haystack covers.covered.given) ∙ length_part haystack c.args.at c.walk_end.result (omega (arith, c.walk_end.ensures.end, covers.covered.given.within)) in
    let few = subst (λ (least : ℕ). c.passable-count.result ≤ length c.bytes-bytes.result.now - least) c.min_buffer_len.ensures.least c.passable-count.ensures.kept in
    omega (arith, far c.passable-count.result c.args.at c.walk_end.result s.buffer.least (length c.bytes-bytes.result.now) few long c.requires.sound.some (omega (arith, c.walk_end.ensures.end, c.requires.further)), c.walk_end.ensures.end)

pub returns-clause-sound : goal.returns-clause-sound
returns-clause-sound g c =
    let (p, haystack, written, (covers, any)) = c.requires.can.1.stands in
    let s = c.args.progress.now in
    let long = ap length (c.bytes-bytes.ensures.part haystack covers.covered.given) ∙ length_part haystack c.args.at c.walk_end.result (omega (arith, c.walk_end.ensures.end, covers.covered.given.within)) in
    let few = subst (λ (least : ℕ). c.passable-count.result ≤ length c.bytes-bytes.result.now - least) c.min_buffer_len.ensures.least c.passable-count.ensures.kept in
    let within = far c.passable-count.result c.args.at c.walk_end.result s.buffer.least (length c.bytes-bytes.result.now) few long c.requires.sound.some (omega (arith, c.walk_end.ensures.end, c.requires.further)) in
    sound-moved s c.args.at (c.args.at + c.passable-count.result) s.sid (c.args.at + c.passable-count.result) c.requires.sound (omega arith) (omega (arith, within)) (omega arith)
