-- What each turn of the loop counts, and what is counted at the end.
use Rattle.std.proofs.Common.{◌≡◌, Bor, Result, Some, Ok, ap, arith, ◌∙◌, length, map}
use Rattle.aho_core.specs.Patterns.{Patterns}
use Rattle.aho_core.specs.declared.error.stream.StreamError.{StreamError}
use Rattle.aho_stream.specs.declared.chunks.StreamChunk.{StreamChunk}
use Rattle.aho_stream.specs.declared.chunks.StreamChunk.TheVariants.{NonMatch, Match}
use Rattle.aho_stream.proofs.Countings.{counts_all, counts_error, go_match, go_plain, goes_on, going_first, match_more, plain_more, small, smaller}
use Rattle.aho_stream.proofs.count.count_matches.Given.{Over}
use Rattle.aho_stream.proofs.count.count_matches.Goals as goal

-- its automaton knows the lengths of its patterns
lengths_are : (g : Over) (automaton : g.row.A.Denot) (p : Patterns) → g.A.Automaton.is_of automaton p → g.A.Automaton.lengths automaton ≡ map length p.words
lengths_are g automaton p of = (g.met.A.Automaton.laws automaton p of).lengths_are

pub loop-answer-init : goal.loop-answer-init
loop-answer-init g c = record { going = going_first _ _ _ c.requires.open }

pub next-requires : goal.next-requires
next-requires g c = record { some = goes_on _ _ _ _ _ c.loop-answer.invariant.going c.requires.fresh }

pub overflow_add-count : goal.overflow_add-count
overflow_add-count g c =
    let going = c.loop-answer.invariant.going in
    let lent = c.next.follows.holds-at-none in
    let is : c.next.result ≡ Some (Ok (Match c.in-Match.bytes c.in-Match.mat)) =
    c.in-Some.is ∙ ap (λ (r : Result StreamChunk (Bor StreamError)). Some r) c.in-Ok.is ∙ ap (λ (chunk : StreamChunk). Some (Ok chunk)) c.in-Match.is in
    omega (arith, small _ _ (lengths_are g) _ _ _ _ _ going lent c.requires.fresh (match_more _ _ (lengths_are g) _ _ _ _ _ going lent _ _ is c.requires.fresh))

pub loop-answer-smaller-in-Match : goal.loop-answer-smaller-in-Match
loop-answer-smaller-in-Match g c =
    let going = c.loop-answer.invariant.going in
    let lent = c.next.follows.holds-at-none in
    let is : c.next.result ≡ Some (Ok (Match c.in-Match.bytes c.in-Match.mat)) =
    c.in-Some.is ∙ ap (λ (r : Result StreamChunk (Bor StreamError)). Some r) c.in-Ok.is ∙ ap (λ (chunk : StreamChunk). Some (Ok chunk)) c.in-Match.is in
    smaller _ _ (lengths_are g) _ _ _ _ _ going lent c.requires.fresh (match_more _ _ (lengths_are g) _ _ _ _ _ going lent _ _ is c.requires.fresh)

pub loop-answer-preserved-in-Match : goal.loop-answer-preserved-in-Match
loop-answer-preserved-in-Match g c =
    let is : c.next.result ≡ Some (Ok (Match c.in-Match.bytes c.in-Match.mat)) =
    c.in-Some.is ∙ ap (λ (r : Result StreamChunk (Bor StreamError)). Some r) c.in-Ok.is ∙ ap (λ (chunk : StreamChunk). Some (Ok chunk)) c.in-Match.is in
    record { going = go_match _ _ (lengths_are g) _ _ _ _ _ c.loop-answer.invariant.going c.next.follows.holds-at-none _ _ is c.requires.fresh }

pub loop-answer-smaller : goal.loop-answer-smaller
loop-answer-smaller g c =
    let going = c.loop-answer.invariant.going in
    let lent = c.next.follows.holds-at-none in
    let is : c.next.result ≡ Some (Ok (NonMatch c.in-NonMatch.bytes)) =
    c.in-Some.is ∙ ap (λ (r : Result StreamChunk (Bor StreamError)). Some r) c.in-Ok.is ∙ ap (λ (chunk : StreamChunk). Some (Ok chunk)) c.in-NonMatch.is in
    smaller _ _ (lengths_are g) _ _ _ _ _ going lent c.requires.fresh (plain_more _ _ (lengths_are g) _ _ _ _ _ going lent _ is c.requires.fresh)

pub loop-answer-preserved : goal.loop-answer-preserved
loop-answer-preserved g c =
    let is : c.next.result ≡ Some (Ok (NonMatch c.in-NonMatch.bytes)) =
    c.in-Some.is ∙ ap (λ (r : Result StreamChunk (Bor StreamError)). Some r) c.in-Ok.is ∙ ap (λ (chunk : StreamChunk). Some (Ok chunk)) c.in-NonMatch.is in
    record { going = go_plain _ _ (lengths_are g) _ _ _ _ _ c.loop-answer.invariant.going c.next.follows.holds-at-none _ is c.requires.fresh }

pub returns-in-Err : goal.returns-in-Err
returns-in-Err g c =
    record { counts = counts_error _ _ (lengths_are g) _ _ _ _ _ c.loop-answer.invariant.going c.next.follows.holds-at-none _ }

pub returns : goal.returns
returns g c =
    record { counts = counts_all _ _ (lengths_are g) _ _ _ _ _ c.loop-answer.invariant.going c.next.follows.holds-at-none c.in_default.is c.requires.fresh }
