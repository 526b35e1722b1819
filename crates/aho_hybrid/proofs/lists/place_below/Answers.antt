use Rattle.std.proofs.Common.{◌≡◌, ◌∙◌, ℕ, List, arith, ap, get_or, length, refl, subst, sym}
use Rattle.std.proofs.lemmas.List.{get_or_read_under}
use Rattle.aho_build.specs.Walking.{IsState}
use Rattle.aho_corasick.specs.ReadOut.{states_of}
use Rattle.aho_table.specs.Table.{matches_in}
use Rattle.aho_hybrid.specs.Filled.{IsListAt}
use Rattle.aho_hybrid.proofs.Shared.{linked-list}
use Rattle.aho_hybrid.proofs.lists.place_below.Goals as goal

pub returns-then-as_usize-gt0-clause-listed : goal.returns-then-as_usize-gt0-clause-listed
returns-then-as_usize-gt0-clause-listed c =
    let states = states_of c.args.nfa.now in
    let places = c.args.lists.now.places.items in
    let sid = c.links.sid in
    let is = c.links.invariant in
    let at : c.index-place.result.now ≡ get_or places sid 0 =
    get_or_read_under places c.as_usize.result (length places) c.index-place.result.now 0 c.index-place.ensures (omega (arith, c.as_usize.ensures.value, is.state.0, c.requires.listed.sized)) refl
    ∙ ap (λ (n : ℕ). get_or places n 0) c.as_usize.ensures.value in
    subst (λ (l : List ℕ). IsListAt c.args.lists.now.words.items c.index-place.result.now l) is.same
    (subst (λ (n : ℕ). IsListAt c.args.lists.now.words.items n (matches_in states sid)) (sym at)
    (c.requires.listed.listed sid is.state.0 (omega (arith, at, c.if-as_usize-gt0.true, c.as_usize-in-links.ensures.value))))

pub links-preserved : goal.links-preserved
links-preserved c =
    let states = states_of c.args.nfa.now in
    let places = c.args.lists.now.places.items in
    let sid = c.links.sid in
    let is = c.links.invariant in
    let at : c.index-place.result.now ≡ get_or places sid 0 =
    get_or_read_under places c.as_usize.result (length places) c.index-place.result.now 0 c.index-place.ensures (omega (arith, c.as_usize.ensures.value, is.state.0, c.requires.listed.sized)) refl
    ∙ ap (λ (n : ℕ). get_or places n 0) c.as_usize.ensures.value in
    let linked = linked-list states c.args.nfa.now.listed c.args.lists.now.words.items places c.requires.listed sid is.state (omega (arith, at, c.if-as_usize-gt0.false, c.as_usize-in-links.ensures.value)) (omega (arith, c.requires.lists, ap (λ (l : List ℕ). length l) is.same)) in
    let link = c.fail-sid.ensures.fail in
    record {
      state = subst (IsState states) (sym link) linked.1;
      same = ap (matches_in states) link ∙ sym linked.0 ∙ is.same;
    }
