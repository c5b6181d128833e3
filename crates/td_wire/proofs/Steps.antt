-- What one call of a wire and then another moved, for callers that make several.
use Rattle.std.proofs.Common.{◌≡◌, ◌∙◌, ℕ, suc, List, [], ◌∷◌, ◌++◌, length, take, drop, Option, None, Some, option_map}
use Rattle.std.proofs.Common.{refl, sym, ap, subst, append_assoc, append-nil, arith}
use Rattle.std.proofs.lemmas.List.{take-append-drop}
use Rattle.td_wire.specs.Connections.{Connection, Traffic, GivesFront, having_left, left_in, left_of, with_left}
use Rattle.td_wire.specs.Connections.{written_on, wrote}

abbrev at : Traffic → Option Connection → Traffic
at t c = record t { current = c }

-- ---- bytes that are written

wrote_nothing : (t : Traffic) → wrote [] t ≡ t
wrote_nothing t = go t.current
  where
    go : (c : Option Connection) → at t (option_map (written_on []) c) ≡ at t c
    go None = refl
    go (Some c) = ap (λ (x : List ℕ). at t (Some (record c { written = x }))) (append-nil c.written)

wrote_both : (a b c : List ℕ) (t : Traffic) → a ++ b ≡ c → wrote b (wrote a t) ≡ wrote c t
wrote_both a b c t e = go t.current
  where
    go : (o : Option Connection)
        → at t (option_map (written_on b) (option_map (written_on a) o)) ≡ at t (option_map (written_on c) o)
    go None = refl
    go (Some k) =
        ap (λ (x : List ℕ). at t (Some (record k { written = x })))
        (append_assoc k.written a b ∙ ap (λ (x : List ℕ). k.written ++ x) e)

-- no bytes change nothing
pub nothing_written : (t : Option Traffic) → option_map (wrote []) t ≡ t
nothing_written None = refl
nothing_written (Some t) = ap (λ (x : Traffic). Some x) (wrote_nothing t)

-- the first bytes of a rest were written, and what is left makes the rest
pub written_more : (before after whole : Option Traffic) (rest left : List ℕ) (n : ℕ) → left ≡ drop n rest
    → after ≡ option_map (wrote (take n rest)) before → option_map (wrote rest) before ≡ whole
    → option_map (wrote left) after ≡ whole
written_more before after whole rest left n is written so_far =
    (λ i. option_map (wrote (is i)) (written i)) ∙ go before ∙ so_far
  where
    go : (t : Option Traffic)
        → option_map (wrote (drop n rest)) (option_map (wrote (take n rest)) t) ≡ option_map (wrote rest) t
    go None = refl
    go (Some t) =
        ap (λ (x : Traffic). Some x) (wrote_both (take n rest) (drop n rest) rest t (take-append-drop n rest))

-- what is written leaves what is given
pub left_wrote : (piece : List ℕ) (t : Traffic) → left_of (wrote piece t) ≡ left_of t
left_wrote piece t = go t.current
  where
    go : (c : Option Connection) → left_in (option_map (written_on piece) c) ≡ left_in c
    go None = refl
    go (Some c) = refl

-- ---- bytes that are given

no_parts : (xs ys : List ℕ) → [] ≡ xs ++ ys → ys ≡ []
no_parts [] ys e = sym e
no_parts (x ∷ xs) ys e = absurd (zero_is (length (xs ++ ys)) (ap (length {A = ℕ}) e))
  where
    zero_is : (n : ℕ) → 0 ≡ suc n → ⊥
    zero_is n h = omega (arith, h)

pub left_with : (t : Traffic) (first rest : List ℕ) → left_of t ≡ first ++ rest → left_of (with_left rest t) ≡ rest
left_with t first rest e = go t.current e
  where
    go : (c : Option Connection) → left_in c ≡ first ++ rest → left_in (option_map (having_left rest) c) ≡ rest
    go None e = sym (no_parts first rest e)
    go (Some c) e = refl

with_twice : (t : Traffic) (a b : List ℕ) → with_left b (with_left a t) ≡ with_left b t
with_twice t a b = go t.current
  where
    go : (c : Option Connection)
        → at t (option_map (having_left b) (option_map (having_left a) c)) ≡ at t (option_map (having_left b) c)
    go None = refl
    go (Some c) = refl

with_own : (t : Traffic) → with_left (left_of t) t ≡ t
with_own t = go t.current
  where
    go : (c : Option Connection) → at t (option_map (having_left (left_in c)) c) ≡ at t c
    go None = refl
    go (Some c) = refl

pub gives_none : (t : Option Traffic) → GivesFront [] t t
gives_none None = refl
gives_none (Some t) = (left_of t, refl, ap (λ (x : Traffic). Some x) (sym (with_own t)))

pub gives_more : (first piece : List ℕ) (a b c : Option Traffic) → GivesFront first a b → GivesFront piece b c
    → GivesFront (first ++ piece) a c
gives_more first piece None b c g h = subst (λ (x : Option Traffic). GivesFront piece x c) g h
gives_more first piece (Some t) b c g h =
    let after : GivesFront piece (Some (with_left g.0 t)) c = subst (λ (x : Option Traffic). GivesFront piece x c) g.2 h in
    let rest : g.0 ≡ piece ++ after.0 = sym (left_with t first g.0 g.1) ∙ after.1 in (
      after.0,
      g.1 ∙ ap (λ (x : List ℕ). first ++ x) rest ∙ sym (append_assoc first piece after.0),
      after.2 ∙ ap (λ (x : Traffic). Some x) (with_twice t g.0 after.0),
    )

-- ---- a request and then another, each with what the connection gave behind it

-- nothing was written, and nothing given
pub moved_none : (t : Traffic) → with_left (left_of t) (wrote [] t) ≡ t
moved_none t = go t.current
  where
    go : (c : Option Connection) → at t (option_map (having_left (left_in c)) (option_map (written_on []) c)) ≡ at t c
    go None = refl
    go (Some c) = ap (λ (x : List ℕ). at t (Some (record c { written = x }))) (append-nil c.written)

pub moved_twice : (a b x y : List ℕ) (t : Traffic)
    → with_left y (wrote b (with_left x (wrote a t))) ≡ with_left y (wrote (a ++ b) t)
moved_twice a b x y t = go t.current
  where
    go : (c : Option Connection)
        → at t (option_map (having_left y) (option_map (written_on b)
        (option_map (having_left x) (option_map (written_on a) c))))
        ≡ at t (option_map (having_left y) (option_map (written_on (a ++ b)) c))
    go None = refl
    go (Some c) =
        ap (λ (w : List ℕ). at t (Some (record c { written = w; left = y }))) (append_assoc c.written a b)
