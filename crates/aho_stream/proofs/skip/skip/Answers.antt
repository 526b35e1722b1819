use Rattle.std.proofs.Common.{◌≡◌, ◌+◌, ◌-◌, ◌≤◌, ℕ, List, length, refl, sym, subst}
use Rattle.std.specs.Prelude.{Option, Some, None, IfSome, if◌then◌else◌, Bool, true, false, slice_range}
use Rattle.aho_prefilter.specs.Candidate.{NoneStartsBefore}
use Rattle.aho_prefilter.specs.Prefilter.{IsPrefilterOf}
use Rattle.aho_prefilter.specs.declared.prefilter.Searcher.{Searcher}
use Rattle.aho_stream.specs.After.{IsAfter}
use Rattle.aho_stream.specs.declared.progress.StreamProgress.{StreamProgress}
use Rattle.aho_stream.proofs.Afters.{after_passed}
use Rattle.aho_stream.proofs.Walks.{at_beginning}
use Rattle.aho_stream.proofs.skip.skip.Goals as goal

-- a prefilter for streams is the one that is held, where streams skip
own : (skips : Bool) (held : Option Searcher) (searcher : Searcher) → Some searcher ≡ (if skips then held else None) → (skips ≡ true) × (held ≡ Some searcher)
own true held searcher same = (refl, sym same)
own false held searcher same = cc

pub returns-clause-after : goal.returns-clause-after
returns-clause-after g c p given of a =
    let automaton = g.W.Walk.of c.args.walk.now in
    let s = c.args.progress.now in
    let count = c.passable-count.result in
    let rest : c.bytes-bytes.result.now ≡ slice_range given s.walked s.read = c.bytes-bytes.ensures.part given (sym a.count) a.last in
    let over = at_beginning s.in_hand (g.W.Of.Automaton.starts automaton s.sid) (sym c.if-not-is_at_beginning.ensures.beginning) in
    let held = own (g.W.Of.Automaton.skips_streams automaton) (g.W.Of.Automaton.prefilter automaton) c.in-Some.prefilter.now c.in-Some.ensures.prefilter in
    let is : IsPrefilterOf c.in-Some.prefilter.now p = subst (λ (held : Option Searcher). IfSome held (λ searcher. IsPrefilterOf searcher p)) held.1 (g.met.W.Of.Automaton.prefilters automaton p of) in
    let none = subst (λ (bytes : List ℕ). NoneStartsBefore p bytes 0 (length bytes) count) rest (c.passable-count.ensures.none p is) in
    let few = subst (λ (bytes : List ℕ). count ≤ (length bytes + 1) - s.buffer.least) rest (subst (λ (least : ℕ). count ≤ (length c.bytes-bytes.result.now + 1) - least) c.min_buffer_len.ensures.least c.passable-count.ensures.kept) in
    subst (λ (t : StreamProgress). IsAfter g.W.Of.Automaton automaton p (g.W.Walk.lookups c.args.walk.now) t given) (sym c.pass.ensures.moved)
    (after_passed g.W.Of.Automaton automaton p (g.met.W.Of.Automaton.laws automaton p of) (g.W.Walk.lookups c.args.walk.now) s given count c.pass.new.self.patience a c.requires.open held.0 over.0 over.1 none few)
