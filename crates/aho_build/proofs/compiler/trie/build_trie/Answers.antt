use Rattle.std.proofs.Common.{◌≡◌, ◌∙◌, refl, ◌++◌, ◌∷◌, ℕ, [], length, rules, subst}
use Rattle.std.specs.Iterator.{Yields}
use Rattle.std.proofs.iter.Next.{Yields-more}
use Rattle.aho_core.specs.declared.error.BuildError.TheVariants.{PatternTooLong}
use Rattle.aho_build.specs.TrieGrowth.{IsPatternRefusal}
use Rattle.aho_table.specs.Table.{IsWithinLimit}
use Rattle.aho_build.specs.Items.{patterns_of, IsTrieFailure}
use Rattle.aho_build.specs.Settings.{in_force}
use Rattle.aho_build.proofs.KeptBorders.{HasBorders-none, HasBorders-next}
use Rattle.aho_build.proofs.MorePatterns.{AwaitsWord-next, Collects-next, HoldsFirst-next, HoldsFirst-counted, HoldsTrie-next, IsNumbered-next, count-next, lengths-next, patterns_next, place-next}
use Rattle.aho_build.proofs.StoppedBuilds.{IfErr-given, AreWithin-none, AreWithin-next, HoldsFirst-room, IsAccepted-none, IsAccepted-next, IsStopped-first, IsStopped-number, IsStopped-length, IsStopped-pattern}
use Rattle.aho_build.proofs.compiler.trie.build_trie.Goals as goal

pub loop-pattern-init : goal.loop-pattern-init
loop-pattern-init g c =
    let room : IsWithinLimit (in_force c.args.settings.now).id c.in_ok-first_states.field-0.states =
    subst (λ (n : ℕ). IsWithinLimit n c.in_ok-first_states.field-0.states) c.in_ok-first_states.ensures.limit c.facts.ensures.within in
    record {
      lens = c.new.ensures.items;
      trie = c.in_ok-first_states.ensures.start (patterns_of c.args.settings.now []);
      limit = c.in_ok-first_states.ensures.limit;
      within = AreWithin-none c.args.settings.now;
      room = room;
      accepted = IsAccepted-none c.args.settings.now
          (HoldsFirst-room (patterns_of c.args.settings.now []) (in_force c.args.settings.now).id c.in_ok-first_states.field-0.states
          (c.in_ok-first_states.ensures.start (patterns_of c.args.settings.now [])) room);
      bordered = HasBorders-none c.args.settings.now c.empty.result c.empty.ensures.empty;
      collected = c.new-2.ensures.empty (patterns_of c.args.settings.now []) refl refl;
    }

pub add_pattern-requires-clause-trie : goal.add_pattern-requires-clause-trie
add_pattern-requires-clause-trie g c =
    let count : c.len.result ≡ length c.loop-pattern.trie.lens.items = search rules in
    AwaitsWord-next c.args.settings.now c.loop-pattern.yielded c.in-Some.pattern c.in_ok-number.number c.loop-pattern.trie.table.states
    (place-next c.args.settings.now c.loop-pattern.yielded c.in-Some.pattern c.loop-pattern.trie.lens.items c.in_ok-number.number c.loop-pattern.invariant.lens
    (c.in_ok-number.ensures.value ∙ count))
    c.loop-pattern.invariant.trie

pub loop-pattern-preserved : goal.loop-pattern-preserved
loop-pattern-preserved g c =
    let count : c.len.result ≡ length c.loop-pattern.trie.lens.items = search rules in
    let place = place-next c.args.settings.now c.loop-pattern.yielded c.in-Some.pattern c.loop-pattern.trie.lens.items c.in_ok-number.number c.loop-pattern.invariant.lens
    (c.in_ok-number.ensures.value ∙ count) in
    let place_is = place-next c.args.settings.now c.loop-pattern.yielded c.in-Some.pattern c.loop-pattern.trie.lens.items c.len.result c.loop-pattern.invariant.lens count in
    let low = c.in_ok-number.ensures.accepted.0 refl in
    let short = c.in_ok-len.ensures.accepted.0 refl in
    let trie = HoldsTrie-next c.args.settings.now c.loop-pattern.yielded c.in-Some.pattern c.in_ok-number.number c.loop-pattern.trie.table.states c.add_pattern.new.table.states place
    c.in_ok-add_pattern.ensures.adds c.loop-pattern.invariant.trie in
    let room : IsWithinLimit (in_force c.args.settings.now).id c.add_pattern.new.table.states =
    subst (λ (n : ℕ). IsWithinLimit n c.add_pattern.new.table.states) (c.in_ok-add_pattern.ensures.limit ∙ c.loop-pattern.invariant.limit) c.facts-in-loop-pattern.ensures.within in
    let next = patterns_next c.args.settings.now c.loop-pattern.yielded c.in-Some.pattern in
    let counted = count-next c.args.settings.now c.loop-pattern.yielded c.in-Some.pattern c.len.result place_is in
    let pushed : c.push.new.self.items ≡ c.loop-pattern.trie.lens.items ++ c.in_ok-len.len ∷ [] = search rules in
    record {
      lens = pushed ∙ lengths-next c.args.settings.now c.loop-pattern.yielded c.in-Some.pattern c.loop-pattern.trie.lens.items c.in_ok-len.len c.loop-pattern.invariant.lens c.in_ok-len.ensures.value;
      trie = trie;
      limit = c.in_ok-add_pattern.ensures.limit ∙ c.loop-pattern.invariant.limit;
      within = AreWithin-next c.args.settings.now c.loop-pattern.yielded c.in-Some.pattern
          c.len.result place_is low short c.loop-pattern.invariant.within;
      room = room;
      accepted = IsAccepted-next c.args.settings.now c.loop-pattern.yielded c.in-Some.pattern c.len.result place_is c.loop-pattern.invariant.accepted low short
          c.add_pattern.new.table.states (HoldsFirst-counted next c.len.result c.add_pattern.new.table.states counted trie) room;
      bordered = HasBorders-next c.args.settings.now c.loop-pattern.yielded c.in-Some.pattern c.in_ok-number.number c.loop-pattern.trie.table.states c.loop-pattern.trie.borders c.add_pattern.new.borders place
          c.loop-pattern.invariant.trie c.in_ok-add_pattern.ensures.borders c.loop-pattern.invariant.bordered;
      collected = Collects-next c.args.settings.now c.loop-pattern.yielded c.in-Some.pattern c.add.new.self
          (c.in-Ok.ensures.added c.args.settings.now (patterns_of c.args.settings.now c.loop-pattern.yielded) c.loop-pattern.invariant.collected);
    }

pub returns-clause-built : goal.returns-clause-built
returns-clause-built g c =
    let begun = subst (λ (i : _). Yields g.I.Iterator.next_gives i c.loop-pattern.yielded c.loop-pattern.pattern-iterator) c.into_iter-pattern-iterator.ensures.into_iter_gives c.loop-pattern.yielded_by in
    let last = subst (λ (r : _). g.I.Iterator.next_gives c.loop-pattern.pattern-iterator r c.next.new.self) c.in-None.is c.next.ensures.steps in (
      c.loop-pattern.yielded,
      (c.next.new.self, (c.loop-pattern.pattern-iterator, begun, last)),
      record {
        lengths = c.loop-pattern.invariant.lens;
        holds = c.loop-pattern.invariant.trie;
        within = c.loop-pattern.invariant.within;
        accepted = c.loop-pattern.invariant.accepted;
        collects = c.loop-pattern.invariant.collected;
        borders = c.loop-pattern.invariant.bordered;
      },
    )

pub returns-in_err-first_states-clause-stopped : goal.returns-in_err-first_states-clause-stopped
returns-in_err-first_states-clause-stopped g c =
    IfErr-given (IsTrieFailure g.I.Iterator.next_gives c.args.patterns c.args.settings.now) c.from_residual.result c.in_err-first_states.field-0.0 c.from_residual.ensures.1
    ([], ((c.args.patterns, refl), IsStopped-first c.args.settings.now c.in_err-first_states.field-0.0 c.in_err-first_states.ensures.refused))

pub returns-in_err-number-clause-stopped : goal.returns-in_err-number-clause-stopped
returns-in_err-number-clause-stopped g c =
    let count : c.len.result ≡ length c.loop-pattern.trie.lens.items = search rules in
    let place = place-next c.args.settings.now c.loop-pattern.yielded c.in-Some.pattern c.loop-pattern.trie.lens.items c.len.result c.loop-pattern.invariant.lens count in
    let begun = subst (λ (i : _). Yields g.I.Iterator.next_gives i c.loop-pattern.yielded c.loop-pattern.pattern-iterator) c.into_iter-pattern-iterator.ensures.into_iter_gives c.loop-pattern.yielded_by in
    let more = Yields-more g.I.Iterator.next_gives c.args.patterns c.loop-pattern.yielded c.loop-pattern.pattern-iterator c.in-Some.pattern c.next.new.self begun c.in-Some.ensures.steps in
    IfErr-given (IsTrieFailure g.I.Iterator.next_gives c.args.patterns c.args.settings.now) c.from_residual-in_err-number.result c.in_err-number.field-0.0 c.from_residual-in_err-number.ensures.1 (
      c.loop-pattern.yielded ++ c.in-Some.pattern ∷ [],
      (
        (c.next.new.self, more),
        IsStopped-number c.args.settings.now c.loop-pattern.yielded c.in-Some.pattern c.len.result place c.loop-pattern.invariant.accepted
            c.in_err-number.field-0.0 (λ low. let clash = c.in_err-number.ensures.accepted.1 low in cc) c.in_err-number.ensures.refused,
      ),
    )

pub returns-in_err-len-clause-stopped : goal.returns-in_err-len-clause-stopped
returns-in_err-len-clause-stopped g c =
    let count : c.len.result ≡ length c.loop-pattern.trie.lens.items = search rules in
    let place = place-next c.args.settings.now c.loop-pattern.yielded c.in-Some.pattern c.loop-pattern.trie.lens.items c.len.result c.loop-pattern.invariant.lens count in
    let begun = subst (λ (i : _). Yields g.I.Iterator.next_gives i c.loop-pattern.yielded c.loop-pattern.pattern-iterator) c.into_iter-pattern-iterator.ensures.into_iter_gives c.loop-pattern.yielded_by in
    let more = Yields-more g.I.Iterator.next_gives c.args.patterns c.loop-pattern.yielded c.loop-pattern.pattern-iterator c.in-Some.pattern c.next.new.self begun c.in-Some.ensures.steps in
    IfErr-given (IsTrieFailure g.I.Iterator.next_gives c.args.patterns c.args.settings.now) c.from_residual-in_err-len.result c.in_err-len.field-0.0 c.from_residual-in_err-len.ensures.1 (
      c.loop-pattern.yielded ++ c.in-Some.pattern ∷ [],
      (
        (c.next.new.self, more),
        IsStopped-length c.args.settings.now c.loop-pattern.yielded c.in-Some.pattern c.len.result place c.loop-pattern.invariant.accepted (c.in_ok-number.ensures.accepted.0 refl)
            c.in_err-len.field-0.0 (λ low. let clash = c.in_err-len.ensures.accepted.1 low in cc)
            (subst (λ (n : ℕ). c.in_err-len.field-0.0 ≡ PatternTooLong n (length c.in-Some.pattern.now) ((in_force c.args.settings.now).length)) c.in_ok-number.ensures.value c.in_err-len.ensures.refused),
      ),
    )

pub returns-in_err-add_pattern-clause-stopped : goal.returns-in_err-add_pattern-clause-stopped
returns-in_err-add_pattern-clause-stopped g c =
    let count : c.len.result ≡ length c.loop-pattern.trie.lens.items = search rules in
    let place = place-next c.args.settings.now c.loop-pattern.yielded c.in-Some.pattern c.loop-pattern.trie.lens.items c.len.result c.loop-pattern.invariant.lens count in
    let begun = subst (λ (i : _). Yields g.I.Iterator.next_gives i c.loop-pattern.yielded c.loop-pattern.pattern-iterator) c.into_iter-pattern-iterator.ensures.into_iter_gives c.loop-pattern.yielded_by in
    let more = Yields-more g.I.Iterator.next_gives c.args.patterns c.loop-pattern.yielded c.loop-pattern.pattern-iterator c.in-Some.pattern c.next.new.self begun c.in-Some.ensures.steps in
    let next = patterns_next c.args.settings.now c.loop-pattern.yielded c.in-Some.pattern in
    let states = c.loop-pattern.trie.table.states in
    let error = c.in_err-add_pattern.field-0.0 in
    let holds = HoldsFirst-next c.args.settings.now c.loop-pattern.yielded c.in-Some.pattern c.len.result states place c.loop-pattern.invariant.trie in
    let refused : IsPatternRefusal (in_force c.args.settings.now).id next c.len.result error =
    subst (λ (n : ℕ). IsPatternRefusal n next c.len.result error) c.loop-pattern.invariant.limit
    (c.in_err-add_pattern.ensures.refused next c.len.result (IsNumbered-next c.args.settings.now c.loop-pattern.yielded c.in-Some.pattern c.len.result place) holds) in
    IfErr-given (IsTrieFailure g.I.Iterator.next_gives c.args.patterns c.args.settings.now) c.from_residual-in_err-add_pattern.result error c.from_residual-in_err-add_pattern.ensures.1 (
      c.loop-pattern.yielded ++ c.in-Some.pattern ∷ [],
      (
        (c.next.new.self, more),
        IsStopped-pattern c.args.settings.now c.loop-pattern.yielded c.in-Some.pattern c.len.result place c.loop-pattern.invariant.accepted
            (c.in_ok-number.ensures.accepted.0 refl) (c.in_ok-len.ensures.accepted.0 refl) states error holds c.loop-pattern.invariant.room refused,
      ),
    )
