-- What comes of files that are done one after another, whatever is done with each.
use Rattle.acredact.proofs.Common.{Bool, Err, Errors, IsUnreadLine, List, Ok, Result, SinkGhosts, Tells, TellsOfFiles, TellsSome, TellsUnlessAll, [], and-true, and_assoc, ap, false, refl, subst, sym, true, ℕ, ◌&&◌, ◌∙◌, ◌∷◌, ◌≡◌}
use Rattle.acredact.proofs.Calls.{some_all, some_then, some_weaker, tells_both, tells_same, tells_weaker}

-- what is answered of two parts together, and of no file
pub record Joins (V : Type 0) : Type 0 where
  pub both : V → V → V
  pub none : V
  pub first : (v : V) → both none v ≡ v
  pub last : (v : V) → both v none ≡ v
  pub assoc : (a b c : V) → both (both a b) c ≡ both a (both b c)

-- whether some and others were all read
abbrev pub all_joined : Joins Bool
all_joined = record { both = λ first more. first && more; none = true; first = λ more. refl; last = and-true; assoc = and_assoc }

abbrev pub also : {V X : Type 0} → Joins V → V → Result V X → Result V X
also joins first (Ok more) = Ok (joins.both first more)
also joins first (Err error) = Err error

-- what comes of the files behind some first ones is what comes of all
pub record InTurn {V X S : Type 0} (joins : Joins V) (Comes : List (List ℕ) → Result V X → S → S → Type 0) (names rest : List (List ℕ)) (first : V) (old new : S) : Type 0 where
  pub so : (result : Result V X) (end : S) → Comes rest result new end → Comes names (also joins first result) old end

module _ {V X S : Type 0} {joins : Joins V} {Comes : List (List ℕ) → Result V X → S → S → Type 0} {names : List (List ℕ)} {old : S} where
  -- before the first
  pub turn_first : InTurn joins Comes names names joins.none old old
  turn_first = record { so = by }
    where
      by : (result : Result V X) (end : S) → Comes names result old end → Comes names (also joins joins.none result) old end
      by (Ok more) end comes = subst (λ (v : V). Comes names (Ok v) old end) (sym (joins.first more)) comes
      by (Err error) end comes = comes

  module _ {behind : List (List ℕ)} {first : V} {mid : S} (turn : InTurn joins Comes names behind first old mid) where
    -- behind one more
    pub turn_next : {rest : List (List ℕ)} {name : List ℕ} {seen all : V} {new : S} → behind ≡ name ∷ rest → all ≡ joins.both first seen
        → ((result : Result V X) (end : S) → Comes rest result new end → Comes (name ∷ rest) (also joins seen result) mid end) → InTurn joins Comes names rest all old new
    turn_next {seen = seen} {all = all} cut is one =
        record { so = λ result end comes. by result end (turn.so (also joins seen result) end (subst (λ l. Comes l (also joins seen result) mid end) (sym cut) (one result end comes))) }
      where
        by : (result : Result V X) (end : S) → Comes names (also joins first (also joins seen result)) old end → Comes names (also joins all result) old end
        by (Ok more) end comes = subst (λ (v : V). Comes names (Ok v) old end) (sym (joins.assoc first seen more) ∙ ap (λ v. joins.both v more) (sym is)) comes
        by (Err error) end comes = comes

    -- one of the others fails, or what comes behind them
    pub turn_fails : {rest : List (List ℕ)} {error : X} {end : S} → behind ≡ rest → Comes rest (Err error) mid end → Comes names (Err error) old end
    turn_fails {rest} {error} {end} cut comes = turn.so (Err error) end (subst (λ l. Comes l (Err error) mid end) (sym cut) comes)

    -- all
    pub turn_end : {end : S} → behind ≡ [] → Comes [] (Ok joins.none) mid end → Comes names (Ok first) old end
    turn_end {end} none comes =
        subst (λ (v : V). Comes names (Ok v) old end) (joins.last first) (turn.so (Ok joins.none) end (subst (λ l. Comes l (Ok joins.none) mid end) (sym none) comes))

-- what is told by whether all was done may be told of more
pub told_by : {E X : Type 0} (K : SinkGhosts E) (Less More : List ℕ → Type 0) (result : Result Bool X) (old new : Errors E) → ((line : List ℕ) → Less line → More line) → TellsUnlessAll K Less result old new → Tells K More old new
told_by K Less More (Ok true) old new weaker same = tells_same K More old new same
told_by K Less More (Ok false) old new weaker some = some_all K Less More old new weaker some
told_by K Less More (Err error) old new weaker tells = tells_weaker K Less More old new weaker tells

-- what is told of a file, and then of others
module _ {E X : Type 0} (K : SinkGhosts E) (First Rest All : List ℕ → Type 0) (first : (line : List ℕ) → First line → All line) (rest : (line : List ℕ) → Rest line → All line) where
  pub told_then : (whole : Bool) (result : Result Bool X) (old mid new : Errors E) → TellsUnlessAll {X = X} K First (Ok whole) old mid → TellsUnlessAll K Rest result mid new → TellsUnlessAll K All (also all_joined whole result) old new
  told_then true (Ok true) old mid new same more = more ∙ same
  told_then true (Ok false) old mid new same more = subst (λ (e : Errors E). TellsSome K All e new) same (some_weaker K Rest All mid new rest more)
  told_then true (Err error) old mid new same more = subst (λ (e : Errors E). Tells K All e new) same (tells_weaker K Rest All mid new rest more)
  told_then false (Ok all) old mid new some more = some_then K All old mid new (some_weaker K First All old mid first some) (told_by {X = X} K Rest All (Ok all) mid new rest more)
  told_then false (Err error) old mid new some more = tells_both K All old mid new (some_all K First All old mid first some) (tells_weaker K Rest All mid new rest more)

-- the same of lines that tell why files are not read
pub told_any : {E X : Type 0} (K : SinkGhosts E) (names : List (List ℕ)) (IsLine : List ℕ → Type 0) (result : Result Bool X) (errors errors' : Errors E) → ((line : List ℕ) → IsUnreadLine names line → IsLine line)
    → TellsOfFiles K names result errors errors' → Tells K IsLine errors errors'
told_any K names = told_by K (IsUnreadLine names)
