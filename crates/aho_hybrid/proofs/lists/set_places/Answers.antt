use Rattle.std.proofs.Common.{◌≡◌, ◌<◌, ◌∙◌, ℕ, List, arith, ap, get_or, inl, inr, length, refl, set, subst, sym}
use Rattle.std.proofs.lemmas.List.{get_or_read_under}
use Rattle.aho_build.specs.Walking.{IsState}
use Rattle.aho_corasick.specs.ReadOut.{states_of}
use Rattle.aho_table.specs.Table.{matches_in}
use Rattle.aho_hybrid.specs.Filled.{AreOwnPlaces, IsListAt}
use Rattle.aho_hybrid.proofs.Shared.{linked-list, own-set, place-kept, place-set}
use Rattle.aho_hybrid.proofs.lists.set_places.Goals as goal

pub links-preserved : goal.links-preserved
links-preserved c =
    let states = states_of c.args.nfa.now in
    let places = c.links.lists.places.items in
    let words = c.links.lists.words.items in
    let sid = c.links.sid in
    let place = c.args.place in
    let is = c.links.invariant in
    let at : c.index.result.now ≡ get_or places sid 0 =
    get_or_read_under places c.as_usize.result (length places) c.index.result.now 0 c.index.ensures (omega (arith, c.as_usize.ensures.value, is.state.0, is.places.sized)) refl
    ∙ ap (λ (n : ℕ). get_or places n 0) c.as_usize.ensures.value in
    let linked = linked-list states c.args.nfa.now.listed words places is.places sid is.state (omega (arith, at, c.if-as_usize-gt0.false, c.as_usize-in-links.ensures.value)) (omega (arith, c.requires.lists, ap (λ (l : List ℕ). length l) is.same)) in
    let link = c.fail-sid.ensures.fail in
    let here : c.as_usize-in-links-2.result ≡ sid = c.as_usize-in-links-2.ensures.value in
    let within : sid < length places = omega (arith, is.state.0, is.places.sized) in
    let listed : IsListAt words place (matches_in states sid) =
    subst (λ (l : List ℕ). IsListAt words place l) (sym is.same) (subst (λ (l : List ℕ). IsListAt l place (matches_in states c.args.from)) (sym is.words) c.requires.placed) in
    record {
      state = subst (IsState states) (sym link) linked.1;
      same = ap (matches_in states) link ∙ sym linked.0 ∙ is.same;
      words = is.words;
      places = subst (λ (n : ℕ). AreOwnPlaces states (length states) words (set places n place)) (sym here) (own-set states places sid place within words c.requires.some listed is.places);
      kept = λ other had.
          subst (λ (n : ℕ). 0 < get_or (set places n place) other 0) (sym here) (place-kept states places sid place within c.requires.some other (is.kept other had));
      set = inr
          (subst (λ (n : ℕ). 0 < get_or (set places n place) c.args.from 0) (sym here)
          (elim is.set [
            | inl same ↦ subst (λ (n : ℕ). 0 < get_or (set places sid place) n 0) same (place-set states places sid place within c.requires.some)
            | inr had ↦ place-kept states places sid place within c.requires.some c.args.from had
          ]));
    }
