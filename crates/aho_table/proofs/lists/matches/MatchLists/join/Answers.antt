-- The patterns of the other list stand behind those of the list; where there are none the store is as it was.
use Rattle.std.proofs.Common.{◌≡◌, ◌+◌, ℕ, List, ◌++◌, length, sym, ap, subst, refl, inl, inr, ◌∙◌, arith}
use Rattle.std.proofs.lemmas.List.{append-nil, nil_from_length}
use Rattle.aho_table.specs.Lists.{list_at}
use Rattle.aho_table.specs.Words.{place_at, pattern_lists, AreStored}
use Rattle.aho_table.proofs.Patterns.{length_at-fewer}
use Rattle.aho_table.proofs.Listed.{length-list_at}
use Rattle.aho_table.proofs.lists.matches.MatchLists.join.Goals as goal

pub returns-then-more-eq0-clause-listed : goal.returns-then-more-eq0-clause-listed
returns-then-more-eq0-clause-listed c =
    let none = nil_from_length (list_at c.args.self.now.lists c.args.other) (omega (arith, c.len_of-more.ensures.len, c.if-more-eq0.true)) in
    record {
      listed = sym (ap (λ (xs : List ℕ). list_at c.args.self.now.lists c.args.list ++ xs) none ∙ append-nil (list_at c.args.self.now.lists c.args.list));
      known = c.requires.known;
      others = λ other below why. refl;
      closed = λ other closed. closed;
    }

pub returns-then-more-eq0-clause-counted : goal.returns-then-more-eq0-clause-counted
returns-then-more-eq0-clause-counted c = omega (arith, c.len_of-more.ensures.len, c.if-more-eq0.true)

pub returns-then-more-eq0-clause-number : goal.returns-then-more-eq0-clause-number
returns-then-more-eq0-clause-number c = inl (inl refl)

pub overflow_add-self-inside : goal.overflow_add-self-inside
overflow_add-self-inside c =
    let words = c.self.inside.words.items in
    let places = c.self.inside.places.items in
    let more : c.len_of-more.result ≡ length (list_at (pattern_lists words places) c.args.other) = rw (← c.self.view_is) at c.len_of-more.ensures.len in
    omega (
      arith,
      more,
      length-list_at words places c.self.inside.count c.args.other c.self.invariant.laid_down,
      length_at-fewer words c.self.inside.count (place_at places c.args.other) c.self.invariant.laid_down,
      c.self.invariant.within,
      c.self.invariant.small,
    )

pub returns-then-self-more-clause-refused : goal.returns-then-self-more-clause-refused
returns-then-self-more-clause-refused c =
    let more : c.len_of-more.result ≡ length (list_at (pattern_lists c.self.inside.words.items c.self.inside.places.items) c.args.other) = rw (← c.self.view_is) at c.len_of-more.ensures.len in
    rw (← c.self.view_is) (inr (c.overflow.ensures.overflow, omega (arith, more, c.if-self-more.true)))

pub join_listed-requires-clause-stored : goal.join_listed-requires-clause-stored
join_listed-requires-clause-stored c =
    let more : c.len_of-more.result ≡ length (list_at (pattern_lists c.self.inside.words.items c.self.inside.places.items) c.args.other) = rw (← c.self.view_is) at c.len_of-more.ensures.len in
    record {
      count = c.self.inside.count;
      limit = c.self.inside.limit;
      stored = c.self.invariant;
      few = omega (arith, more, c.if-self-more.false);
    }

pub join_listed-requires-clause-some : goal.join_listed-requires-clause-some
join_listed-requires-clause-some c =
    let more : c.len_of-more.result ≡ length (list_at (pattern_lists c.self.inside.words.items c.self.inside.places.items) c.args.other) = rw (← c.self.view_is) at c.len_of-more.ensures.len in
    omega (arith, more, c.if-more-eq0.false)

pub returns-clause-listed : goal.returns-clause-listed
returns-clause-listed c =
    rw (← c.self.view_is) (c.in-Ok.ensures.listed c.self.inside.count (c.self.inside.count + c.len_of-more.result) c.self.inside.limit)

pub returns-clause-number : goal.returns-clause-number
returns-clause-number c = rw (← c.self.view_is) c.in-Ok.ensures.number

pub returns-clause-counted : goal.returns-clause-counted
returns-clause-counted c =
    let more : c.len_of-more.result ≡ length (list_at (pattern_lists c.self.inside.words.items c.self.inside.places.items) c.args.other) = rw (← c.self.view_is) at c.len_of-more.ensures.len in
    rw (← c.self.view_is) (omega (arith, more))

pub invariant_of-self-2 : goal.invariant_of-self-2
invariant_of-self-2 c =
    let count = c.self.inside.count in
    let limit = c.self.inside.limit in
    let more : c.len_of-more.result ≡ length (list_at (pattern_lists c.self.inside.words.items c.self.inside.places.items) c.args.other) = rw (← c.self.view_is) at c.len_of-more.ensures.len in
    subst (λ (n : ℕ). AreStored c.join_listed.new.words.items c.join_listed.new.places.items (count + n) limit) (sym more)
    (c.in-Ok.ensures.stored count limit c.self.invariant (omega (arith, more, c.if-self-more.false)))
