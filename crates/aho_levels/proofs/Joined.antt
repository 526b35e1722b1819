-- One link more: that of a child, from the link of the state above it.
use Rattle.std.proofs.Common.{◌≡◌, ◌≢◌, ◌∙◌, ℕ, suc, ◌+◌, ◌-◌, ◌*◌, ◌<◌, ◌≤◌, Bool, true, false, cond, ◌&&◌, not, inl, inr, List, [], ◌∷◌, ◌++◌, ap, arith, drop, get_or, length, nat_eq, refl, subst, sym, take}
use Rattle.std.specs.Prelude.{Option, Some, None, nat_lt}
use Rattle.std.proofs.lemmas.Bool.{cases_eq, cases_lt, cond-false, cond-true, eq-eqb, le-ltb, lt-ltb, ne_eqb}
use Rattle.std.proofs.lemmas.List.{get_or_append_left, get_or_push, length-drop, length-map, length-take, length_push}
use Rattle.aho_core.specs.Bytes.{folded}
use Rattle.aho_core.specs.Failure.{failure_of, is_leftmost}
use Rattle.aho_core.specs.MatchList.{own_matches}
use Rattle.aho_core.specs.Patterns.{Patterns}
use Rattle.aho_core.specs.Step.{follow}
use Rattle.aho_core.specs.declared.search.Anchored.TheVariants.{No}
use Rattle.aho_core.specs.declared.search.MatchKind.{MatchKind}
use Rattle.aho_laws.proofs.ByLinks.{ends_here, is_empty}
use Rattle.aho_levels.specs.Building.{AreOfTrie}
use Rattle.aho_levels.specs.Layout.{CanStepThrough, IsStateNumber, StateTables, depth_at, row_entry_at, first_child, link_at, looks_on_links, looks_of_step, next_at}
use Rattle.aho_levels.specs.Linking.{AreLinkedTo, HasNewLink, IsWalkOf, ends_walk_at, link_below}
use Rattle.aho_levels.specs.Listing.{AreAllAt, numbers_of}
use Rattle.aho_levels.specs.Meaning.{AreLinked, IsStateNamed, LeadsAsWords, named_word}
use Rattle.aho_levels.specs.Reading.{next-named, unique}
use Rattle.aho_levels.specs.Stepping.{next-paid}
use Rattle.aho_levels.specs.declared.links.Walk.{Walk}
use Rattle.aho_levels.specs.declared.trie.Own.{Own}
use Rattle.aho_levels.proofs.Linking.{back-named, link-first, link-further}
use Rattle.aho_levels.proofs.Nested.{parent-of, state-within}
use Rattle.aho_levels.proofs.Owning.{owns-run, passed-more}
use Rattle.aho_levels.proofs.Ranges.{first-up, in-range, one-parent, told-in}
use Rattle.aho_levels.proofs.Same.{children-same, in_levels-same, of_trie-same, trie-back}

-- a step looks at one state at least
looks-some : (t : StateTables) (byte sid : ℕ) → 1 ≤ looks_of_step t No sid byte
looks-some t byte sid = omega (arith, ap (λ (n : ℕ). looks_on_links n t byte sid) (let next : sid + 1 ≡ suc sid = omega arith in next))

-- a list with an element is not empty
some-not_empty : (xs : List ℕ) → 0 < length xs → not (is_empty xs) ≡ true
some-not_empty [] some = absurd (omega (arith, some))
some-not_empty (x ∷ xs) some = refl

-- whether patterns stand from one on and before another
pub run-some : (owns : List Own) (own next : ℕ) → own ≤ next → next ≤ length owns → not (is_empty (numbers_of (take (next - own) (drop own owns)))) ≡ nat_lt own next
run-some owns own next ordered within =
    elim (cases_lt own next) [
      | inl less ↦
          some-not_empty (numbers_of (take (next - own) (drop own owns)))
          (omega (arith, less, within, length-map (take (next - own) (drop own owns)) (λ (x : Own). x.number), length-take (next - own) (drop own owns), length-drop own owns))
          ∙ sym (lt-ltb own next less)
      | inr past ↦
          ap (λ (n : ℕ). not (is_empty (numbers_of (take n (drop own owns))))) (let none : next - own ≡ 0 = omega (arith, past) in none)
          ∙ sym (le-ltb own next past)
    ]

-- the state of one byte's way back is the root or the dead one
pub back-near : (ends : Bool) → cond ends 0 1 ≤ 1
back-near true = omega arith
back-near false = omega arith

module _ (owns : List Own) (walk : Walk) (is_walk : IsWalkOf owns walk) (own next parent child : ℕ) (t : StateTables) (some : 0 < parent) (within : IsStateNumber t parent)
    (from : first_child t parent ≤ child) (to : child < first_child t (parent + 1)) (linked : AreLinkedTo walk.kind owns own child t) where
  abbrev byte : ℕ
  byte = get_or t.bytes child 0

  pub behind : 2 ≤ child
  behind = omega (arith, from, linked.levels.begins, first-up t linked.can.children 1 parent some (omega (arith, within)))

  inside : child < length t.bytes
  inside = omega (arith, to, linked.can.children.within parent within)

  deeper : depth_at t child ≡ depth_at t parent + 1
  deeper = linked.can.children.deeper parent byte child within (told-in t linked.can.children parent child within from to)

  -- a state no deeper than one above the child stands before it
  before : (sid : ℕ) → IsStateNumber t sid → depth_at t sid < depth_at t child → sid < child
  before sid is shallow =
      elim (cases_lt sid child) [
        | inl less ↦ less
        | inr past ↦
            elim (cases_eq child sid) [
              | inl same ↦ absurd (omega (arith, ap (depth_at t) same, shallow))
              | inr other ↦ absurd (omega (arith, linked.levels.deeper child sid (omega (arith, past, other)) is, shallow))
            ]
      ]

  pub parent-lower : parent < child
  parent-lower = before parent within (omega (arith, deeper))

  small : byte < 256
  small = linked.levels.bytes child behind inside

  pub link-lower : link_at t parent < parent
  link-lower = linked.can.walkable.lower parent some (omega (arith, parent-lower, linked.linked))

  -- by which way the child is linked
  below-first : parent ≡ 1 → link_below t walk.back parent child ≡ walk.back
  below-first one = cond-true (nat_eq parent 1) walk.back (next_at t No (link_at t parent) byte) (eq-eqb parent 1 one)

  below-further : parent ≢ 1 → link_below t walk.back parent child ≡ next_at t No (link_at t parent) byte
  below-further other = cond-false (nat_eq parent 1) walk.back (next_at t No (link_at t parent) byte) (ne_eqb parent 1 other)

  back-shallow : depth_at t walk.back ≡ 0
  back-shallow = ap (depth_at t) is_walk.back ∙ by (ends_walk_at walk.kind owns 1)
    where
      by : (ends : Bool) → depth_at t (cond ends 0 1) ≡ 0
      by true = linked.can.children.dead_depth
      by false = linked.can.children.root_depth

  -- its link leads to a state before it, and less deep
  near-below : (link_below t walk.back parent child < child) × (depth_at t (link_below t walk.back parent child) < depth_at t child)
  near-below =
      elim (cases_eq parent 1) [
        | inl one ↦
            (let led = below-first one in
            (omega (arith, led, is_walk.back, back-near (ends_walk_at walk.kind owns 1), behind), omega (arith, ap (depth_at t) led, back-shallow, deeper)))
        | inr other ↦
            (let led = below-further other in
            let paid = next-paid t linked.can No (link_at t parent) byte small (omega (arith, link-lower, parent-lower, linked.linked)) in
            let shallow : depth_at t (next_at t No (link_at t parent) byte) < depth_at t child =
            omega (arith, paid.1, looks-some t byte (link_at t parent), linked.nearer parent (omega (arith, some, other)) parent-lower, deeper) in
            (omega (arith, led, before (next_at t No (link_at t parent) byte) paid.0 shallow), omega (arith, ap (depth_at t) led, shallow)))
      ]

  module _ (at : AreAllAt owns own next child) (link : ℕ) (link_is : link ≡ cond (is_leftmost walk.kind && nat_lt own next) 0 (link_below t walk.back parent child)) where
    pub near-link : (link < child) × (depth_at t link < depth_at t child)
    near-link = by (is_leftmost walk.kind && nat_lt own next) link_is
      where
        by : (ends : Bool) → link ≡ cond ends 0 (link_below t walk.back parent child) → (link < child) × (depth_at t link < depth_at t child)
        by true is = (omega (arith, is, behind), omega (arith, ap (depth_at t) is, linked.can.children.dead_depth, deeper))
        by false is = (omega (arith, is, near-below.0), omega (arith, ap (depth_at t) is, near-below.1))

    -- by words: it leads on failure where the child's word does
    module _ (p : Patterns) (names : List (Option (List ℕ))) (kind_is : p.kind ≡ walk.kind) (of : AreOfTrie p names owns t) where
      leads : LeadsAsWords p t names
      leads = record { case_is = of.case_is; levels = of.levels; linked = linked.links p names kind_is of }

      ends-same : (word : List ℕ) → named_word names child ≡ Some word → ends_here p word ≡ (is_leftmost walk.kind && nat_lt own next)
      ends-same word named =
          ap (λ (k : MatchKind). is_leftmost k && not (is_empty (own_matches p word))) kind_is
          ∙ ap (λ (l : List ℕ). is_leftmost walk.kind && not (is_empty l)) (sym (of.owns.own child word named) ∙ owns-run owns own next child at (linked.passed p names kind_is of) of.owns.rising)
          ∙ ap (λ (b : Bool). is_leftmost walk.kind && b) (run-some owns own next at.ordered at.within)

      root-ends : ends_here p [] ≡ ends_walk_at walk.kind owns 1
      root-ends =
          ap (λ (k : MatchKind). is_leftmost k && not (is_empty (own_matches p []))) kind_is
          ∙ ap (λ (l : List ℕ). is_leftmost walk.kind && not (is_empty l)) (sym (of.owns.own 1 [] of.levels.root))

      back-is : IsStateNamed names (cond (ends_here p []) None (Some [])) walk.back
      back-is =
          subst (λ (n : ℕ). IsStateNamed names (cond (ends_here p []) None (Some [])) n) (ap (λ (b : Bool). cond b 0 1) root-ends ∙ sym is_walk.back) (back-named p names of.levels.root)

      -- where the walk goes on
      led : (word : List ℕ) → named_word names child ≡ Some word → (below : ℕ) → link_below t walk.back parent child ≡ below
          → IsStateNamed names (failure_of p word) (cond (ends_here p word) 0 below) → IsStateNamed names (failure_of p word) link
      led word named below is to =
          subst (λ (n : ℕ). IsStateNamed names (failure_of p word) n)
          (ap (λ (b : Bool). cond b 0 below) (ends-same word named) ∙ sym (ap (λ (n : ℕ). cond (is_leftmost walk.kind && nat_lt own next) 0 n) is) ∙ sym link_is) to

      by-front : (front : List ℕ) (x : ℕ) (word : List ℕ) → named_word names parent ≡ Some front → word ≡ front ++ x ∷ [] → byte ≡ x → folded p x ≡ x → named_word names child ≡ Some word → IsStateNamed names (failure_of p word) link
      by-front [] x word above word_is byte_is fold named =
          let one : parent ≡ 1 = unique p names t of.levels parent 1 [] above of.levels.root in
          led word named walk.back (below-first one)
          (subst (λ (l : List ℕ). IsStateNamed names (failure_of p l) (cond (ends_here p l) 0 walk.back)) (sym word_is) (link-first p names x walk.back back-is))
      by-front (y ∷ v) x word above word_is byte_is fold named =
          let other : parent ≢ 1 = λ one. (let clash : Some (y ∷ v) ≡ Some [] = sym above ∙ ap (named_word names) one ∙ of.levels.root in cc) in
          let failed = leads.linked.links parent (y ∷ v) (omega (arith, parent-lower, linked.linked)) above (λ e. cc) in
          let stepped = next-named p t names leads linked.can No (link_at t parent) byte (failure_of p (y ∷ v)) small (omega (arith, link-lower, parent-lower, linked.linked)) failed in
          let same : folded p byte ≡ x = ap (folded p) byte_is ∙ fold in
          led word named (next_at t No (link_at t parent) byte) (below-further other)
          (subst (λ (l : List ℕ). IsStateNamed names (failure_of p l) (cond (ends_here p l) 0 (next_at t No (link_at t parent) byte))) (sym word_is)
          (link-further p names y v x (next_at t No (link_at t parent) byte)
          (subst (λ (n : ℕ). IsStateNamed names (follow p No (failure_of p (y ∷ v)) n) (next_at t No (link_at t parent) byte)) same stepped)))

      pub link-named : (word : List ℕ) → named_word names child ≡ Some word → word ≢ [] → IsStateNamed names (failure_of p word) link
      link-named word named some =
          let is = parent-of p names t of.levels child word named some in
          let state : IsStateNumber t is.parent = omega (arith, state-within p names t of.levels is.parent is.front is.named, of.levels.sized) in
          let range = in-range t linked.can.children is.parent is.byte child state is.told in
          let same : is.parent ≡ parent = one-parent t linked.can.children is.parent parent child state within range.0 range.1 from to in
          by-front is.front is.byte word (sym (ap (named_word names) same) ∙ is.named) is.word_is range.2 is.folded.1 named

    -- the layout with that link
    module _ (new : StateTables) (has : HasNewLink t new link) where
      link-old : (sid : ℕ) → sid < child → link_at new sid ≡ link_at t sid
      link-old sid less = ap (λ (l : List ℕ). get_or l sid 0) has.fails ∙ get_or_append_left t.fails (link ∷ []) 0 sid (omega (arith, less, linked.linked))

      pub link-new : link_at new child ≡ link
      link-new = ap (λ (l : List ℕ). get_or l child 0) has.fails ∙ get_or_push t.fails link 0 child linked.linked

      count : length new.fails ≡ child + 1
      count = ap (λ (l : List ℕ). length l) has.fails ∙ length_push t.fails link ∙ ap (λ (n : ℕ). n + 1) linked.linked

      states : length new.bytes ≡ length t.bytes
      states = ap (λ (l : List ℕ). length l) has.trie.bytes

      depth-same : (sid : ℕ) → depth_at new sid ≡ depth_at t sid
      depth-same sid = ap (λ (l : List ℕ). get_or l sid 0) has.trie.depths

      entry-same : (sid b : ℕ) → row_entry_at new sid b ≡ row_entry_at t sid b
      entry-same sid b = ap (λ (l : List ℕ). get_or l (sid * 256 + b) 0) has.rows

      lower-all : (sid : ℕ) → 0 < sid → sid < child + 1 → link_at new sid < sid
      lower-all sid some less =
          elim (cases_lt sid child) [
            | inl past ↦ omega (arith, link-old sid past, linked.can.walkable.lower sid some (omega (arith, past, linked.linked)))
            | inr here ↦ (let same : sid ≡ child = omega (arith, less, here) in omega (arith, same, ap (link_at new) same, link-new, near-link.0))
          ]

      nearer-all : (sid : ℕ) → 2 ≤ sid → sid < child + 1 → depth_at new (link_at new sid) < depth_at new sid
      nearer-all sid deep less =
          elim (cases_lt sid child) [
            | inl past ↦ omega (arith, ap (depth_at new) (link-old sid past), depth-same (link_at t sid), depth-same sid, linked.nearer sid deep past)
            | inr here ↦
                (let same : sid ≡ child = omega (arith, less, here) in
                omega (arith, ap (depth_at new) (ap (link_at new) same ∙ link-new), depth-same link, ap (depth_at new) same, depth-same child, near-link.1))
          ]

      pub can-joined : CanStepThrough new
      can-joined = record {
        sized = record {
          two = omega (arith, states, linked.can.sized.two);
          small = omega (arith, states, linked.can.sized.small);
          firsts = ap (λ (l : List ℕ). length l) has.trie.firsts ∙ linked.can.sized.firsts ∙ ap (λ (n : ℕ). n + 1) (sym states);
          depths = ap (λ (l : List ℕ). length l) has.trie.depths ∙ linked.can.sized.depths ∙ sym states;
          rows = ap (λ (l : List ℕ). length l) has.rows ∙ linked.can.sized.rows ∙ ap (λ (n : ℕ). 256 * n) (sym has.counted);
          with_rows = omega (arith, has.counted, linked.can.sized.with_rows);
          linked = omega (arith, has.counted, count, linked.can.sized.linked, linked.linked);
          some_links = omega (arith, count, states, inside);
        };
        children = children-same t new has.trie linked.can.children;
        walkable = record {
          entry = λ sid b less byte_small. omega (arith, entry-same sid b, states, linked.can.walkable.entry sid b (omega (arith, less, has.counted)) byte_small);
          entry_near = λ sid b less byte_small.
              omega (arith, ap (depth_at new) (entry-same sid b), depth-same (row_entry_at t sid b), depth-same sid, linked.can.walkable.entry_near sid b (omega (arith, less, has.counted)) byte_small);
          dead_stays = λ b byte_small. entry-same 0 b ∙ linked.can.walkable.dead_stays b byte_small;
          link = λ sid past less. lower-all sid (omega (arith, past, has.counted, linked.can.sized.with_rows)) (omega (arith, less, count));
          lower = λ sid some less. lower-all sid some (omega (arith, less, count));
          link_nearer = λ sid past less. nearer-all sid (omega (arith, past, has.counted, linked.can.sized.with_rows)) (omega (arith, less, count));
        };
      }

      of-old : (p : Patterns) (names : List (Option (List ℕ))) → AreOfTrie p names owns new → AreOfTrie p names owns t
      of-old p names of = of_trie-same new t (trie-back t new has.trie) p names owns of

      links-joined : (p : Patterns) (names : List (Option (List ℕ))) → p.kind ≡ walk.kind → AreOfTrie p names owns t → AreLinked p names new
      links-joined p names kind_is of = record {
        links = λ i word less named nonempty.
            elim (cases_lt i child) [
              | inl past ↦
                  subst (λ (n : ℕ). IsStateNamed names (failure_of p word) n) (sym (link-old i past))
                  ((linked.links p names kind_is of).links i word (omega (arith, past, linked.linked)) named nonempty)
              | inr here ↦
                  (let same : i ≡ child = omega (arith, less, count, here) in
                  subst (λ (n : ℕ). IsStateNamed names (failure_of p word) n) (sym (ap (link_at new) same ∙ link-new))
                  (link-named p names kind_is of word (sym (ap (named_word names) same) ∙ named) nonempty))
            ];
        rows = λ i b state less byte_small named.
            subst (λ (n : ℕ). IsStateNamed names (follow p No state (folded p b)) n) (sym (entry-same i b))
            ((linked.links p names kind_is of).rows i b state (omega (arith, less, has.counted)) byte_small named);
      }

      pub joined : AreLinkedTo walk.kind owns next (child + 1) new
      joined = record {
        can = can-joined;
        levels = in_levels-same t new has.trie linked.levels;
        linked = count;
        nearer = nearer-all;
        within = at.within;
        passed = λ p names kind_is of. passed-more owns own next child at (linked.passed p names kind_is (of-old p names of)) of.owns.rising;
        links = λ p names kind_is of. links-joined p names kind_is (of-old p names of);
      }
