use Rattle.std.proofs.Common.{◌≡◌, ◌∙◌, ℕ, ◌-◌, ◌<◌, [], ◌∷◌, ◌++◌, ap, arith, drop, get_or, length, subst, take}
use Rattle.std.proofs.lemmas.List.{get_or_read}
use Rattle.aho_levels.specs.Layout.{StateTables, link_at, place_of_list}
use Rattle.aho_levels.specs.Listing.{AreAllAt, list_with}
use Rattle.aho_levels.proofs.Listing.{listed-own, listed-shared}
use Rattle.aho_levels.proofs.lists.list_state.Goals as goal

pub returns-then-next-own-clause-listed : goal.returns-then-next-own-clause-listed
returns-then-next-own-clause-listed c =
    let old = c.args.states.now in
    let inside = c.states.inside in
    let index = c.args.index in
    let owns = c.args.owns.now in
    let lower : link_at old index < index = c.requires.can.walkable.lower index c.requires.some (omega (arith, c.requires.within, c.requires.all)) in
    let link : c.as_usize.result ≡ link_at old index =
    c.as_usize.ensures.value
    ∙ get_or_read inside.fails.items index c.index.result.now (omega (arith, c.requires.all, c.requires.within, ap (λ (t : StateTables). length t.fails) c.states.view_is)) c.index.ensures 0
    ∙ ap (λ (t : StateTables). get_or t.fails index 0) c.states.view_is in
    let linked : c.index-linked.result.now ≡ place_of_list old (link_at old index) =
    get_or_read inside.places.items c.as_usize.result c.index-linked.result.now
    (omega (arith, link, lower, ap (λ (t : StateTables). length t.places) c.states.view_is, c.requires.listed.placed.sized)) c.index-linked.ensures 0
    ∙ ap (λ (n : ℕ). get_or inside.places.items n 0) link
    ∙ ap (λ (t : StateTables). get_or t.places (link_at old index) 0) c.states.view_is in
    let at : AreAllAt owns c.args.own c.past_owns-next.result index = subst (λ (n : ℕ). AreAllAt owns c.args.own c.past_owns-next.result n) c.new_unchecked.ensures.value c.past_owns-next.ensures.at in
    listed-shared owns c.args.own c.past_owns-next.result index old c.requires.can c.requires.all c.requires.some c.requires.within c.requires.listed at _
    (record {
      trie = record {
        firsts = ap (λ (t : StateTables). t.firsts) c.states.view_is;
        bytes = ap (λ (t : StateTables). t.bytes) c.states.view_is;
        depths = ap (λ (t : StateTables). t.depths) c.states.view_is;
        case_rule = ap (λ (t : StateTables). t.ignore_case) c.states.view_is;
      };
      fails = ap (λ (t : StateTables). t.fails) c.states.view_is;
      rows = ap (λ (t : StateTables). t.rows) c.states.view_is;
      row_count = ap (λ (t : StateTables). t.row_count) c.states.view_is;
    })
    c.if-next-own.true
    (c.in_ok-push.ensures.pushed ∙ ap (λ (n : ℕ). inside.places.items ++ n ∷ []) linked ∙ ap (λ (t : StateTables). t.places ++ place_of_list old (link_at old index) ∷ []) c.states.view_is)
    (ap (λ (t : StateTables). t.lists) c.states.view_is)

pub returns-clause-listed : goal.returns-clause-listed
returns-clause-listed c =
    let old = c.args.states.now in
    let inside = c.states.inside in
    let index = c.args.index in
    let owns = c.args.owns.now in
    let lower : link_at old index < index = c.requires.can.walkable.lower index c.requires.some (omega (arith, c.requires.within, c.requires.all)) in
    let link : c.as_usize.result ≡ link_at old index =
    c.as_usize.ensures.value
    ∙ get_or_read inside.fails.items index c.index.result.now (omega (arith, c.requires.all, c.requires.within, ap (λ (t : StateTables). length t.fails) c.states.view_is)) c.index.ensures 0
    ∙ ap (λ (t : StateTables). get_or t.fails index 0) c.states.view_is in
    let linked : c.index-linked.result.now ≡ place_of_list old (link_at old index) =
    get_or_read inside.places.items c.as_usize.result c.index-linked.result.now
    (omega (arith, link, lower, ap (λ (t : StateTables). length t.places) c.states.view_is, c.requires.listed.placed.sized)) c.index-linked.ensures 0
    ∙ ap (λ (n : ℕ). get_or inside.places.items n 0) link
    ∙ ap (λ (t : StateTables). get_or t.places (link_at old index) 0) c.states.view_is in
    let at : AreAllAt owns c.args.own c.past_owns-next.result index = subst (λ (n : ℕ). AreAllAt owns c.args.own c.past_owns-next.result n) c.new_unchecked.ensures.value c.past_owns-next.ensures.at in
    listed-own owns c.args.own c.past_owns-next.result index old c.requires.can c.requires.all c.requires.some c.requires.within c.requires.listed at _
    (record {
      trie = record {
        firsts = ap (λ (t : StateTables). t.firsts) c.states.view_is;
        bytes = ap (λ (t : StateTables). t.bytes) c.states.view_is;
        depths = ap (λ (t : StateTables). t.depths) c.states.view_is;
        case_rule = ap (λ (t : StateTables). t.ignore_case) c.states.view_is;
      };
      fails = ap (λ (t : StateTables). t.fails) c.states.view_is;
      rows = ap (λ (t : StateTables). t.rows) c.states.view_is;
      row_count = ap (λ (t : StateTables). t.row_count) c.states.view_is;
    })
    c.in_ok-place.place
    (c.in_ok-place.ensures.place ∙ ap (λ (t : StateTables). length t.lists) c.states.view_is)
    (c.in_ok-push-2.ensures.pushed ∙ ap (λ (t : StateTables). t.places ++ c.in_ok-place.place ∷ []) c.states.view_is)
    (c.in_ok-place.ensures.added
    ∙ ap (λ (n : ℕ). inside.lists.items ++ length (list_with (take (c.past_owns-next.result - c.args.own) (drop c.args.own owns)) inside.lists.items n) ∷ list_with (take (c.past_owns-next.result - c.args.own) (drop c.args.own owns)) inside.lists.items n) linked
    ∙ ap (λ (t : StateTables). t.lists ++ length (list_with (take (c.past_owns-next.result - c.args.own) (drop c.args.own owns)) t.lists (place_of_list old (link_at old index))) ∷ list_with (take (c.past_owns-next.result - c.args.own) (drop c.args.own owns)) t.lists (place_of_list old (link_at old index))) c.states.view_is)
    c.in_ok-place.ensures.small
