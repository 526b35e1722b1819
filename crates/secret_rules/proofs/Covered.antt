-- What stands for all that is covered of a line.
use Rattle.std.proofs.Common.{◌≡◌, inl, inr, ℕ, zero, suc, ◌+◌, ◌<◌, ◌≤◌, Bool, false, List, [], ◌∷◌, ◌++◌, length, map, refl, sym, ◌∙◌, ap, subst, arith}
use Rattle.std.specs.Prelude.{◌-◌, nat_lt, Option, None, Some, IfSome, slice_index_or}
use Rattle.std.specs.Borrow.{Bor}
use Rattle.std.proofs.lemmas.List.{length-map}
use Rattle.std.proofs.lemmas.Option.{slice_get_within}
use Rattle.std.proofs.lemmas.Bool.{cond-true, cond-false, lt-ltb, le-ltb}
use Rattle.aho_core.specs.Cover.{AreRunsOf, IsRunOf}
use Rattle.aho_core.specs.Laws.{shortest}
use Rattle.aho_core.specs.Listing.{IsListedBy, IsMember}
use Rattle.aho_core.specs.Occurrence.{Occurrence}
use Rattle.aho_core.specs.Patterns.{Patterns}
use Rattle.aho_core.specs.declared.search.MatchKind.TheVariants.{Standard}
use Rattle.aho_automaton.specs.declared.automaton.Automaton.{Ghosts as Automata}
use Rattle.aho_cover.specs.Words.{CountsIn}
use Rattle.aho_laws.specs.CoverLaws.{StandApart}
use Rattle.aho_laws.proofs.CoverRuns.{runs-covering}
use Rattle.aho_laws.proofs.Listed.{member-left, member-of_append, member-right}
use Rattle.aho_laws.proofs.Members.{member-map, member-of_map}
use Rattle.secret_rules.specs.Covering.{CoveredIn, Covering, covering_by, marked, seen_line, whole_line}
use Rattle.secret_rules.specs.LineCovers.{AreSearchedFor}
use Rattle.secret_rules.specs.Marks.{AreAllMarks}
use Rattle.secret_rules.specs.OpenLines.{CanSearch, IsSetting}
use Rattle.secret_rules.specs.Picking.{StandForAll}
use Rattle.secret_rules.specs.Writing.{LieFrom}
use Rattle.secret_rules.specs.declared.marks.Mark.{Mark}
use Rattle.secret_rules.specs.declared.open_line.Setting.{Setting}
use Rattle.secret_rules.specs.declared.rule.Rule.{Rule}
use Rattle.secret_rules.proofs.Joined.{IsNamed}
use Rattle.secret_rules.proofs.Picked.{AreRunsOf-standing, counts-occurs, stands-itself}

-- no pattern is shorter than the shortest
shortest-least : (words : List (List ℕ)) (number : ℕ) → number < length words → shortest (map length words) ≤ length (slice_index_or words number [])
shortest-least [] number below = absurd (omega arith)
shortest-least (word ∷ words) zero below = omega arith
shortest-least (word ∷ words) (suc number) below = omega (arith, shortest-least words number (omega arith))

-- what counts of a search's patterns is not empty
pub counts-full : (words : Bool) (p : Patterns) (line : List ℕ) (m : Occurrence) → 1 ≤ shortest (map length p.words) → CountsIn words p line m → m.start < m.end
counts-full words p line m full counts =
    (let occurs = (counts-occurs words p line m counts).0 in
    omega (arith, occurs.sized, full, shortest-least p.words m.pattern occurs.numbered))

-- no patterns are searched for without an automaton, and none of one is empty
pub searched-full : {A : Type 0} (G : Automata A) (automaton : Option (Bor A)) (p : Patterns) → ((a : A) → G.is_of a p → G.lengths a ≡ map length p.words)
    → IfSome automaton (λ a. CanSearch G a.now) → AreSearchedFor G automaton p → (words : Bool) (line : List ℕ) (m : Occurrence) → CountsIn words p line m → m.start < m.end
searched-full G None p laws can searched words line m counts =
    (let occurs = (counts-occurs words p line m counts).0 in
    absurd (omega (arith, occurs.numbered, ap length searched)))
searched-full G (Some a) p laws can searched words line m counts =
    counts-full words p line m (subst (λ (lengths : List ℕ). 1 ≤ shortest lengths) (laws a.now searched) can.full) counts

module _ (covering : Covering) (before : List (List ℕ)) (line : List ℕ) (short : length line ≤ covering.most)
    (found : List Occurrence) (marks : List Mark) (stand : StandForAll (CountsIn covering.words covering.patterns line) found) (all : AreAllMarks covering.rules before line marks) where
  -- what was found of the patterns, and the marks, stand for all that is covered
  pub covered-standing : StandForAll (CoveredIn covering before line) (found ++ map (marked (length covering.patterns.words)) marks)
  covered-standing = record {
    only = λ m there. elim (member-of_append found (map (marked (length covering.patterns.words)) marks) m there) [
      | inl old ↦ inr (short, inl (stand.only m old))
      | inr own ↦
          (let made = member-of_map (marked (length covering.patterns.words)) marks m own in
          inr (short, inr (record { mark = made.0; marks = (all made.0).0 made.1; same = made.2 })))
    ];
    has = λ m member. elim member [
      | inl long ↦ absurd (omega (arith, long.0))
      | inr rest ↦ elim rest.1 [
        | inl counts ↦
            (let f = stand.has m counts in
            (f.0, member-left found (map (marked (length covering.patterns.words)) marks) f.0 f.1, f.2))
        | inr is ↦ (
          m,
          member-right found (map (marked (length covering.patterns.words)) marks) m
              (subst (IsMember (map (marked (length covering.patterns.words)) marks)) (sym is.same)
              (member-map (marked (length covering.patterns.words)) marks is.mark ((all is.mark).1 is.marks))),
          stands-itself m,
        )
      ]
    ];
  }

  module _ (full : (m : Occurrence) → CountsIn covering.words covering.patterns line m → m.start < m.end) where
    -- none of it is empty
    pub covered-full : (m : Occurrence) → CoveredIn covering before line m → m.start < m.end
    covered-full m member =
        elim member [
          | inl long ↦ absurd (omega (arith, long.0))
          | inr rest ↦ elim rest.1 [
            | inl counts ↦ full m counts
            | inr is ↦ subst (λ (o : Occurrence). o.start < o.end) (sym is.same) is.marks.marks.0
          ]
        ]

  -- and what was found lies in the line
  pub found-within : ((mark : Mark) → IsMember marks mark → mark.end ≤ length line) → (m : Occurrence) → IsMember (found ++ map (marked (length covering.patterns.words)) marks) m → m.end ≤ length line
  found-within within m there =
      elim (member-of_append found (map (marked (length covering.patterns.words)) marks) m there) [
        | inl old ↦ (counts-occurs covering.words covering.patterns line m (stand.only m old)).0.before_end
        | inr own ↦
            (let made = member-of_map (marked (length covering.patterns.words)) marks m own in
            subst (λ (o : Occurrence). o.end ≤ length line) (sym made.2) (within made.0 made.1))
      ]

-- runs of members that lie in a line lie in it, one behind another
pub runs-lie : (Member : Occurrence → Type 0) (line : List ℕ) (runs : List Occurrence) → ((m : Occurrence) → Member m → m.end ≤ length line) → AreRunsOf Member runs → LieFrom line 0 runs
runs-lie Member line runs within are =
    from runs 0 are.in_order (omega arith) (λ run there. omega arith) (λ run there. ((are.members run).0 there))
  where
    ends : (run : Occurrence) → IsRunOf Member run → run.end ≤ length line
    ends run is =
        (let last = is.stretch.covered (run.end - 1) (omega (arith, is.stretch.some)) (omega (arith, is.stretch.some)) in
        omega (arith, last.before_end, within last.found last.member, is.stretch.some))

    from : (rest : List Occurrence) (at : ℕ) → IsListedBy StandApart rest → at ≤ length line → ((run : Occurrence) → IsMember rest run → at ≤ run.start) → ((run : Occurrence) → IsMember rest run → IsRunOf Member run)
        → LieFrom line at rest
    from [] at listed low after each = low
    from (run ∷ rest) at listed low after each =
        let is = each run (inl refl) in (
          after run (inl refl),
          omega (arith, is.stretch.some),
          from rest run.end listed.1 (ends run is) (λ later there. omega (arith, listed.0 later there)) (λ later there. each later (inr there)),
        )

-- the one run of a line that is too long
pub whole-runs : (covering : Covering) (before : List (List ℕ)) (line : List ℕ) → covering.most < length line → AreRunsOf (CoveredIn covering before line) (whole_line covering line ∷ [])
whole-runs covering before line long =
    runs-covering (CoveredIn covering before line) (whole_line covering line ∷ []) (length line) (record {
      ordered = record {
        in_order = ((λ later none. absurd none), tt);
        full = λ x there. one (λ o. o.start < o.end) x there (omega (arith, long));
        within = λ x there. one (λ o. o.end ≤ length line) x there (omega arith);
      };
      only = λ at c. record { found = whole_line covering line; member = inl (long, refl); after_start = omega arith; before_end = one (λ o. at < o.end → at < length line) c.found c.member (λ l. omega (arith, l)) c.before_end };
      has = λ at c. record { found = whole_line covering line; member = inl refl; after_start = omega arith; before_end = subst (λ (o : Occurrence). at < o.end) (own c.found c.member) c.before_end };
      named = λ x there. one (λ o. IsNamed (CoveredIn covering before line) o.start o.pattern) x there
          (whole_line covering line, ((inl (long, refl), refl), λ other h. inl (own other h.0)), refl);
    })
  where
    own : (x : Occurrence) → CoveredIn covering before line x → x ≡ whole_line covering line
    own x member = elim member [ inl is ↦ is.1 | inr short ↦ absurd (omega (arith, short.0, long)) ]

    one : (P : Occurrence → Type 0) (x : Occurrence) → IsMember (whole_line covering line ∷ []) x → P (whole_line covering line) → P x
    one P x there h = elim there [ inl e ↦ subst P (sym e) h | inr none ↦ absurd none ]

-- what rules see of a line
pub seen-long : (most : ℕ) (line : List ℕ) → most < length line → seen_line most line ≡ []
seen-long most line long = cond-true (nat_lt most (length line)) [] line (lt-ltb most (length line) long)

pub seen-short : (most : ℕ) (line : List ℕ) → length line ≤ most → seen_line most line ≡ line
seen-short most line short = cond-false (nat_lt most (length line)) [] line (le-ltb most (length line) short)

-- there are patterns that are searched for
pub some-searched : {A : Type 0} (G : Automata A) (automaton : Option (Bor A)) → IfSome automaton (λ a. CanSearch G a.now) → (p : Patterns) × AreSearchedFor G automaton p
some-searched G None can = (record { words = []; kind = Standard; ignore_case = false }, refl)
some-searched G (Some a) can = can.of

-- as many patterns as an automaton has, or none without one
pub patterns-counted : {A : Type 0} (G : Automata A) (automaton : Option (Bor A)) (count : ℕ) → IfSome automaton (λ a. count ≡ length (G.lengths a.now)) → (automaton ≡ None → count ≡ 0)
    → (p : Patterns) → ((a : A) → G.is_of a p → G.lengths a ≡ map length p.words) → AreSearchedFor G automaton p → length p.words ≡ count
patterns-counted G None count some none p laws searched = ap length searched ∙ sym (none refl)
patterns-counted G (Some a) count some none p laws searched = sym (some ∙ ap length (laws a.now searched) ∙ length-map p.words length)

-- their numbers and those of the rules fit
pub numbers-fit : {A : Type 0} (G : Automata A) (automaton : Option (Bor A)) (count rules most : ℕ) → IfSome automaton (λ a. count ≡ length (G.lengths a.now)) → (automaton ≡ None → count ≡ 0)
    → IfSome automaton (λ a. length (G.lengths a.now) + rules ≤ most) → rules ≤ most → count + rules ≤ most
numbers-fit G None count rules most some none few few_rules = omega (arith, none refl, few_rules)
numbers-fit G (Some a) count rules most some none few few_rules = omega (arith, some, few)

-- without patterns nothing counts
pub none-standing : (words : Bool) (p : Patterns) (line : List ℕ) → p.words ≡ [] → StandForAll (CountsIn words p line) []
none-standing words p line none = record {
  only = λ m there. absurd there;
  has = λ m counts.
      let occurs = (counts-occurs words p line m counts).0 in
      absurd (omega (arith, occurs.numbered, ap length none));
}

-- what was found of a line by a setting and rules
module _ {A : Type 0} (G : Automata A) (setting : Setting A) (rules : List Rule) (is : IsSetting G setting rules) (before : List (List ℕ)) (line : List ℕ) (short : length line ≤ setting.most)
    (marks : List Mark) (all : AreAllMarks rules before line marks) (p : Patterns) (searched : AreSearchedFor G setting.automaton p)
    (laws : (a : A) → G.is_of a p → G.lengths a ≡ map length p.words)
    (found found' : List Occurrence) (stand : StandForAll (CountsIn setting.words p line) found) (pushed : found' ≡ found ++ map (marked setting.patterns) marks) where
  found-is : found' ≡ found ++ map (marked (length p.words)) marks
  found-is = pushed ∙ ap (λ (n : ℕ). found ++ map (marked n) marks) (sym (is.patterns p searched))

  pub setting-standing : StandForAll (CoveredIn (covering_by setting.words rules setting.most p) before line) found'
  setting-standing = subst (StandForAll (CoveredIn (covering_by setting.words rules setting.most p) before line)) (sym found-is)
      (covered-standing (covering_by setting.words rules setting.most p) before line short found marks stand all)

  pub setting-full : (m : Occurrence) → CoveredIn (covering_by setting.words rules setting.most p) before line m → m.start < m.end
  setting-full m member = covered-full (covering_by setting.words rules setting.most p) before line short found marks stand all
      (λ x counts. searched-full G setting.automaton p laws is.searches searched setting.words line x counts) m member

  pub setting-runs : (runs : List Occurrence) → AreRunsOf (IsMember found') runs → AreRunsOf (CoveredIn (covering_by setting.words rules setting.most p) before line) runs
  setting-runs runs are = AreRunsOf-standing (CoveredIn (covering_by setting.words rules setting.most p) before line) found' setting-standing runs setting-full are

  pub setting-lie : (runs : List Occurrence) → ((mark : Mark) → IsMember marks mark → mark.end ≤ length line) → AreRunsOf (IsMember found') runs → LieFrom line 0 runs
  setting-lie runs within are = runs-lie (IsMember found') line runs
      (λ m there. found-within (covering_by setting.words rules setting.most p) before line short found marks stand all within m (subst (λ (xs : List Occurrence). IsMember xs m) found-is there)) are

-- the numbers of marks fit
pub marks-numbered : (rules : List Rule) (before : List (List ℕ)) (line : List ℕ) (marks : List Mark) (patterns most : ℕ) → AreAllMarks rules before line marks → patterns + length rules ≤ most
    → (mark : Mark) → IsMember marks mark → patterns + mark.rule ≤ most
marks-numbered rules before line marks patterns most all few mark there =
    (let is = (all mark).0 there in
    omega (arith, few, slice_get_within rules mark.rule is.rule is.numbered))

pub marks-ordered : (rules : List Rule) (before : List (List ℕ)) (line : List ℕ) (marks : List Mark) → AreAllMarks rules before line marks → (mark : Mark) → IsMember marks mark → mark.start ≤ mark.end
marks-ordered rules before line marks all mark there = (let is = (all mark).0 there in omega (arith, is.marks.0))
