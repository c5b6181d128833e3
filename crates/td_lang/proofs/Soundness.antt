-- What was taken so far is the beginning of a sentence; what is read is a sentence.
use Rattle.std.proofs.Common.{pos, neg_ℤ, ◌≡◌, ℕ, ◌+◌, ◌-◌, ◌<◌, ◌≤◌, Bool, true, false, nat_lt, List, [], ◌∷◌, ◌++◌}
use Rattle.std.proofs.Common.{Result, Ok, Err, refl, sym, ap, subst, if◌then◌else◌, ◌∙◌, append_assoc, arith}
use Rattle.std.proofs.lemmas.Bool.{ltb-true, ltb-false}
use Rattle.std.proofs.lemmas.List.{append-nil}
use Rattle.td_lang.specs.declared.expr.Op.{Op}
use Rattle.td_lang.specs.declared.expr.Op.TheVariants as op
use Rattle.td_lang.specs.declared.expr.Expr.{Expr}
use Rattle.td_lang.specs.declared.expr.Expr.TheVariants as expr
use Rattle.td_lang.specs.declared.token.Token.{Token}
use Rattle.td_lang.specs.declared.token.Token.TheVariants as token
use Rattle.td_lang.specs.declared.machine.Frame.{Frame}
use Rattle.td_lang.specs.declared.machine.Frame.TheVariants as frame
use Rattle.td_lang.specs.declared.machine.State.{State}
use Rattle.td_lang.specs.declared.machine.State.TheVariants as state
use Rattle.td_lang.specs.declared.machine.Stop.{Stop}
use Rattle.td_lang.specs.Levels.{level, left, right}
use Rattle.td_lang.specs.Machine.{MachineState, step, step_of, reduction, end_of, takes_not, whole, close_step}
use Rattle.td_lang.specs.Machine.{operator_step}
use Rattle.td_lang.specs.Machine.{within_step, operand}
use Rattle.td_lang.specs.Grammar.{Phrase, Operation, Within, Negation, Existence, PropertyName, Numeral, Negative}
use Rattle.td_lang.specs.Grammar.{Quoted, Truth, Parenthesis, IsOfLevel, tokens, tree, Shallow, Sentence}
use Rattle.td_lang.specs.Lexing.{HasSpelling}
use Rattle.td_lang.specs.Reading.{◌>>=◌, run, start, read}
use Rattle.td_lang.specs.FirstFaults.{Viable}
use Rattle.td_lang.proofs.Completeness.{needs, level-right, level-high, level-low, run-append, reads}

-- a phrase of level m, its tree, and where it stands
pub record Holds (below : List Token → Type 0) (room m : ℕ) (e : Expr) (ts : List Token) : Type 0 where
  pub phrase : Phrase
  pub front : List Token
  pub fits : IsOfLevel m phrase
  pub shallow : Shallow room phrase
  pub tree_is : tree phrase ≡ e
  pub before : below front
  pub spelled : ts ≡ front ++ tokens phrase

pub record Then (below : List Token → Type 0) (t : Token) (ts : List Token) : Type 0 where
  pub front : List Token
  pub before : below front
  pub spelled : ts ≡ front ++ t ∷ []

-- these tokens were taken, with so many parentheses open, until the frames were left
abbrev pub Before : List Frame → ℕ → List Token → Type 0
Before [] d ts = (d ≡ 0) × (ts ≡ [])
Before (frame.Binary o a ∷ st) d ts =
    (needs st ≤ level o) × Then (Holds (Before st d) (64 - d) (left o) a) (token.Operator o) ts
Before (frame.Not ∷ st) d ts = (needs st ≤ 8) × Then (Before st d) token.Not ts
Before (frame.Open ∷ st) d ts = (0 < d) × (d ≤ 64) × Then (Before st (d - 1)) token.Open ts

abbrev pub At : List Frame → ℕ → State → List Token → Type 0
At st d state.Operand ts = Before st d ts
At st d state.AfterExist ts = Then (Before st d) token.Exist ts
At st d state.AfterMinus ts = Then (Before st d) (token.Operator op.Sub) ts
At st d (state.AfterIn e) ts = (needs st ≤ 4) × Then (Holds (Before st d) (64 - d) 5 e) token.Within ts
At st d (state.Done m e) ts = (needs st ≤ m) × (m ≤ 9) × Holds (Before st d) (64 - d) m e ts

pub fits_lower : (c : Phrase) (k m : ℕ) → k ≤ m → IsOfLevel m c → IsOfLevel k c
fits_lower (Operation o a b) k m h f = (omega (arith, f.0), f.1, f.2)
fits_lower (Within a name) k m h f = (omega (arith, f.0), f.1)
fits_lower (Negation a) k m h f = (omega (arith, f.0), f.1)
fits_lower (Existence name) k m h f = omega arith
fits_lower (PropertyName name) k m h f = omega arith
fits_lower (Numeral n) k m h f = omega arith
fits_lower (Negative n) k m h f = omega arith
fits_lower (Quoted t) k m h f = omega arith
fits_lower (Truth b) k m h f = omega arith
fits_lower (Parenthesis a) k m h f = (omega (arith, f.0), f.1)

regroup : (xs ys : List Token) (t : Token) (zs : List Token) → (((xs ++ ys) ++ t ∷ []) ++ zs) ≡ xs ++ (ys ++ t ∷ zs)
regroup xs ys t zs = simp append_assoc

-- a frame is finished
pub joins : (o : Op) (a : Expr) (st : List Frame) (d m : ℕ) (e : Expr) (ts : List Token) → right o ≤ m
    → Holds (Before (frame.Binary o a ∷ st) d) (64 - d) m e ts
    → Holds (Before st d) (64 - d) (level o) (expr.Binary o a e) ts
joins o a st d m e ts need h =
    let first = h.before.1 in
    let operand_held = first.before in
    record {
      phrase = Operation o operand_held.phrase h.phrase;
      front = operand_held.front;
      fits = (omega arith, operand_held.fits, fits_lower h.phrase (right o) m need h.fits);
      shallow = (operand_held.shallow, h.shallow);
      tree_is =
          ap (λ (x : Expr). expr.Binary o x (tree h.phrase)) operand_held.tree_is
          ∙ ap (λ (x : Expr). expr.Binary o a x) h.tree_is;
      before = operand_held.before;
      spelled =
          h.spelled ∙ ap (λ (xs : List Token). xs ++ tokens h.phrase)
          (first.spelled ∙ ap (λ (xs : List Token). xs ++ token.Operator o ∷ []) operand_held.spelled)
          ∙ regroup operand_held.front (tokens operand_held.phrase) (token.Operator o) (tokens h.phrase);
    }

pub denies : (st : List Frame) (d m : ℕ) (e : Expr) (ts : List Token) → 9 ≤ m
    → Holds (Before (frame.Not ∷ st) d) (64 - d) m e ts → Holds (Before st d) (64 - d) 8 (expr.Not e) ts
denies st d m e ts need h = record {
  phrase = Negation h.phrase;
  front = h.before.1.front;
  fits = (omega arith, fits_lower h.phrase 9 m need h.fits);
  shallow = h.shallow;
  tree_is = ap (λ (x : Expr). expr.Not x) h.tree_is;
  before = h.before.1.before;
  spelled =
      h.spelled ∙ ap (λ (xs : List Token). xs ++ tokens h.phrase) h.before.1.spelled
      ∙ append_assoc h.before.1.front (token.Not ∷ []) (tokens h.phrase);
}

pub encloses : (st : List Frame) (d m : ℕ) (e : Expr) (ts : List Token) → 1 ≤ m
    → Holds (Before (frame.Open ∷ st) d) (64 - d) m e ts
    → Holds (Before st (d - 1)) (64 - (d - 1)) 9 e (ts ++ token.Close ∷ [])
encloses st d m e ts need h =
    let depth_behind = h.before.2 in
    let room : 64 - (d - 1) - 1 ≡ 64 - d = omega (arith, h.before.0, h.before.1) in
    record {
      phrase = Parenthesis h.phrase;
      front = depth_behind.front;
      fits = (omega arith, fits_lower h.phrase 1 m need h.fits);
      shallow = (omega (arith, h.before.0, h.before.1), subst (λ (r : ℕ). Shallow r h.phrase) (sym room) h.shallow);
      tree_is = h.tree_is;
      before = depth_behind.before;
      spelled =
          ap (λ (xs : List Token). xs ++ token.Close ∷ [])
          (h.spelled ∙ ap (λ (xs : List Token). xs ++ tokens h.phrase) depth_behind.spelled
          ∙ append_assoc depth_behind.front (token.Open ∷ []) (tokens h.phrase))
          ∙ append_assoc depth_behind.front (token.Open ∷ tokens h.phrase) (token.Close ∷ []);
    }

-- what stands when all is finished before something of level n
pub record Settles (n d : ℕ) (s : List Frame × ℕ × Expr) (ts : List Token) : Type 0 where
  pub needed : needs s.0 ≤ s.1
  pub high : s.1 ≤ 9
  pub takes : 1 ≤ n → needs s.0 ≤ n
  pub holds : Holds (Before s.0 d) (64 - d) s.1 s.2 ts

pub settles : (n : ℕ) (st : List Frame) (d m : ℕ) (e : Expr) (ts : List Token) → needs st ≤ m → m ≤ 9
    → Holds (Before st d) (64 - d) m e ts → Settles n d (reduction n st m e) ts
settles n [] d m e ts need high h = record { needed = need; high = high; takes = λ p. p; holds = h }
settles n (frame.Binary o a ∷ st) d m e ts need high h =
    binary_settles (nat_lt n (right o)) refl
    (settles n st d (level o) (expr.Binary o a e) ts h.before.0 (omega (arith, level-high o))
    (joins o a st d m e ts need h))
  where
    binary_settles : (b : Bool) → nat_lt n (right o) ≡ b → Settles n d (reduction n st (level o) (expr.Binary o a e)) ts
        → Settles n d (if b then reduction n st (level o) (expr.Binary o a e) else (frame.Binary o a ∷ st, m, e)) ts
    binary_settles true is more = more
    binary_settles false is more = record {
      needed = need;
      high = high;
      takes = λ p. ltb-false n (right o) is;
      holds = h;
    }
settles n (frame.Not ∷ st) d m e ts need high h =
    settles n st d 8 (expr.Not e) ts h.before.0 (omega arith) (denies st d m e ts need h)
settles n (frame.Open ∷ st) d m e ts need high h = record { needed = need; high = high; takes = λ p. p; holds = h }

pub before_more : (ts : List Token) (t : Token) → HasSpelling t → Viable (ts ++ t ∷ []) → Viable ts
before_more ts t own v = record {
  more = t ∷ v.more;
  spelled = (own, v.spelled);
  expr = v.expr;
  sentence = subst (λ (xs : List Token). Sentence xs v.expr) (append_assoc ts (t ∷ []) v.more) v.sentence;
}

needs_high : (st : List Frame) → needs st ≤ 9
needs_high [] = omega arith
needs_high (frame.Binary o a ∷ st) = omega (arith, level-right o, level-high o)
needs_high (frame.Not ∷ st) = omega arith
needs_high (frame.Open ∷ st) = omega arith

existing : (st : List Frame) (d : ℕ) (n : List ℕ) (ts : List Token) → Then (Before st d) token.Exist ts
    → Holds (Before st d) (64 - d) 9 (expr.Exist n) (ts ++ token.Name n ∷ [])
existing st d n ts h = record {
  phrase = Existence n;
  front = h.front;
  fits = omega arith;
  shallow = tt;
  tree_is = refl;
  before = h.before;
  spelled =
      ap (λ (xs : List Token). xs ++ token.Name n ∷ []) h.spelled
      ∙ append_assoc h.front (token.Exist ∷ []) (token.Name n ∷ []);
}

opposing : (st : List Frame) (d n : ℕ) (ts : List Token) → Then (Before st d) (token.Operator op.Sub) ts
    → Holds (Before st d) (64 - d) 9 (expr.Number (neg_ℤ (pos n))) (ts ++ token.Number n ∷ [])
opposing st d n ts h = record {
  phrase = Negative n;
  front = h.front;
  fits = omega arith;
  shallow = tt;
  tree_is = refl;
  before = h.before;
  spelled =
      ap (λ (xs : List Token). xs ++ token.Number n ∷ []) h.spelled
      ∙ append_assoc h.front (token.Operator op.Sub ∷ []) (token.Number n ∷ []);
}

looking : (st : List Frame) (d : ℕ) (e : Expr) (n : List ℕ) (ts : List Token)
    → Then (Holds (Before st d) (64 - d) 5 e) token.Within ts
    → Holds (Before st d) (64 - d) 4 (expr.Within e n) (ts ++ token.Name n ∷ [])
looking st d e n ts h =
    let held = h.before in
    record {
      phrase = Within held.phrase n;
      front = held.front;
      fits = (omega arith, held.fits);
      shallow = held.shallow;
      tree_is = ap (λ (x : Expr). expr.Within x n) held.tree_is;
      before = held.before;
      spelled =
          ap (λ (xs : List Token). xs ++ token.Name n ∷ [])
          (h.spelled ∙ ap (λ (xs : List Token). xs ++ token.Within ∷ []) held.spelled)
          ∙ regroup held.front (tokens held.phrase) token.Within (token.Name n ∷ []);
    }

-- a text that may go on may go on to a sentence
pub closes : (st : List Frame) (d m : ℕ) (e : Expr) (ts : List Token) → needs st ≤ m
    → Holds (Before st d) (64 - d) m e ts → Viable ts
closes [] d m e ts need h =
    let room : 64 - d ≡ 64 = omega (arith, h.before.0) in
    let none : ts ++ [] ≡ tokens h.phrase =
    append-nil ts ∙ h.spelled ∙ ap (λ (xs : List Token). xs ++ tokens h.phrase) h.before.1 in
    record {
      more = [];
      spelled = tt;
      expr = tree h.phrase;
      sentence =
          record {
            phrase = h.phrase;
            fits = fits_lower h.phrase 1 m need h.fits;
            shallow = subst (λ (r : ℕ). Shallow r h.phrase) room h.shallow;
            spelled = sym none;
            tree_is = refl;
          };
    }
closes (frame.Binary o a ∷ st) d m e ts need h =
    closes st d (level o) (expr.Binary o a e) ts h.before.0 (joins o a st d m e ts need h)
closes (frame.Not ∷ st) d m e ts need h = closes st d 8 (expr.Not e) ts h.before.0 (denies st d m e ts need h)
closes (frame.Open ∷ st) d m e ts need h =
    before_more ts token.Close tt
    (closes st (d - 1) 9 e (ts ++ token.Close ∷ []) (needs_high st) (encloses st d m e ts need h))

-- where it may go on
pub goes_on : (st : List Frame) (d : ℕ) (s : State) (ts : List Token) → At st d s ts → Viable ts
goes_on st d state.Operand ts h =
    before_more ts (token.Number 0) (omega arith)
    (closes st d 9 (expr.Number (pos 0)) (ts ++ token.Number 0 ∷ []) (needs_high st)
    (record {
      phrase = Numeral 0;
      front = ts;
      fits = omega arith;
      shallow = tt;
      tree_is = refl;
      before = h;
      spelled = refl;
    }))
goes_on st d state.AfterExist ts h =
    before_more ts (token.Name (120 ∷ [])) refl
    (closes st d 9 (expr.Exist (120 ∷ [])) (ts ++ token.Name (120 ∷ []) ∷ []) (needs_high st)
    (existing st d (120 ∷ []) ts h))
goes_on st d state.AfterMinus ts h =
    before_more ts (token.Number 0) (omega arith)
    (closes st d 9 (expr.Number (pos 0)) (ts ++ token.Number 0 ∷ []) (needs_high st) (opposing st d 0 ts h))
goes_on st d (state.AfterIn e) ts h =
    before_more ts (token.Name (120 ∷ [])) refl
    (closes st d 4 (expr.Within e (120 ∷ [])) (ts ++ token.Name (120 ∷ []) ∷ []) h.0
    (looking st d e (120 ∷ []) ts h.1))
goes_on st d (state.Done m e) ts h = closes st d m e ts h.0 h.2

-- a step that is taken
abbrev pub After : Result MachineState Stop → List Token → Type 0
After (Ok s) ts = At s.stack s.depth s.state ts
After (Err e) ts = Unit {0}

after_test : (b : Bool) (s : MachineState) (e : Stop) (ts : List Token) → (b ≡ false → At s.stack s.depth s.state ts)
    → After (if b then Err e else Ok s) ts
after_test true s e ts h = tt
after_test false s e ts h = h refl

after_test_true : (b : Bool) (s : MachineState) (e : Stop) (ts : List Token) → (b ≡ true → At s.stack s.depth s.state ts)
    → After (if b then Ok s else Err e) ts
after_test_true true s e ts h = h refl
after_test_true false s e ts h = tt

takes_not-low : (st : List Frame) → takes_not st ≡ true → needs st ≤ 8
takes_not-low [] h = omega arith
takes_not-low (frame.Binary o a ∷ st) h = omega (arith, level-right o, level-high o)
takes_not-low (frame.Not ∷ st) h = cc
takes_not-low (frame.Open ∷ st) h = omega arith

operand_at : (st : List Frame) (d : ℕ) (t : Token) (ts : List Token) → Before st d ts
    → After (operand d st t) (ts ++ t ∷ [])
operand_at st d (token.Name n) ts h = (
  needs_high st,
  omega arith,
  record {
    phrase = PropertyName n;
    front = ts;
    fits = omega arith;
    shallow = tt;
    tree_is = refl;
    before = h;
    spelled = refl;
  },
)
operand_at st d (token.Number n) ts h = (
  needs_high st,
  omega arith,
  record {
    phrase = Numeral n;
    front = ts;
    fits = omega arith;
    shallow = tt;
    tree_is = refl;
    before = h;
    spelled = refl;
  },
)
operand_at st d (token.Quoted t) ts h = (
  needs_high st,
  omega arith,
  record {
    phrase = Quoted t;
    front = ts;
    fits = omega arith;
    shallow = tt;
    tree_is = refl;
    before = h;
    spelled = refl;
  },
)
operand_at st d (token.Truth b) ts h = (
  needs_high st,
  omega arith,
  record {
    phrase = Truth b;
    front = ts;
    fits = omega arith;
    shallow = tt;
    tree_is = refl;
    before = h;
    spelled = refl;
  },
)
operand_at st d (token.Keyword k) ts h = tt
operand_at st d token.Exist ts h = record { front = ts; before = h; spelled = refl }
operand_at st d token.Not ts h =
    after_test_true (takes_not st) _ _ (ts ++ token.Not ∷ [])
    (λ e. (takes_not-low st e, record { front = ts; before = h; spelled = refl }))
operand_at st d token.Open ts h =
    let back : d ≡ d + 1 - 1 = omega arith in
    after_test_true (nat_lt d 64) _ _ (ts ++ token.Open ∷ [])
    (λ e. (
      omega arith,
      omega (arith, ltb-true d 64 e),
      record { front = ts; before = subst (λ (k : ℕ). Before st k ts) back h; spelled = refl },
    ))
operand_at st d (token.Operator op.Sub) ts h = record { front = ts; before = h; spelled = refl }
operand_at st d (token.Operator o) ts h = tt
operand_at st d token.Within ts h = tt
operand_at st d token.Close ts h = tt

joined_at : (d : ℕ) (o : Op) (s : List Frame × ℕ × Expr) (ts : List Token) → Settles (level o) d s ts
    → After (operator_step d o s) (ts ++ token.Operator o ∷ [])
joined_at d o s ts h = after_test (nat_lt s.1 (left o)) _ _ (ts ++ token.Operator o ∷ [])
    (λ e. (
      h.takes (level-low o),
      record {
        front = ts;
        before =
            record {
              phrase = h.holds.phrase;
              front = h.holds.front;
              fits = fits_lower h.holds.phrase (left o) s.1 (ltb-false s.1 (left o) e) h.holds.fits;
              shallow = h.holds.shallow;
              tree_is = h.holds.tree_is;
              before = h.holds.before;
              spelled = h.holds.spelled;
            };
        spelled = refl;
      },
    ))

looked_at : (d : ℕ) (s : List Frame × ℕ × Expr) (ts : List Token) → Settles 4 d s ts
    → After (within_step d s) (ts ++ token.Within ∷ [])
looked_at d s ts h = after_test (nat_lt s.1 5) _ _ (ts ++ token.Within ∷ [])
    (λ e. (
      h.takes (omega arith),
      record {
        front = ts;
        before =
            record {
              phrase = h.holds.phrase;
              front = h.holds.front;
              fits = fits_lower h.holds.phrase 5 s.1 (ltb-false s.1 5 e) h.holds.fits;
              shallow = h.holds.shallow;
              tree_is = h.holds.tree_is;
              before = h.holds.before;
              spelled = h.holds.spelled;
            };
        spelled = refl;
      },
    ))

closed_at : (d : ℕ) (st : List Frame) (m : ℕ) (e : Expr) (ts : List Token) → Settles 0 d (st, m, e) ts
    → After (close_step d st e) (ts ++ token.Close ∷ [])
closed_at d [] m e ts h = tt
closed_at d (frame.Binary o a ∷ st) m e ts h = tt
closed_at d (frame.Not ∷ st) m e ts h = tt
closed_at d (frame.Open ∷ st) m e ts h = (needs_high st, omega arith, encloses st d m e ts h.needed h.holds)

pub step_at : (st : List Frame) (d : ℕ) (s : State) (t : Token) (ts : List Token) → At st d s ts
    → After (step_of d st s t) (ts ++ t ∷ [])
step_at st d state.Operand t ts h = operand_at st d t ts h
step_at st d state.AfterExist (token.Name n) ts h = (needs_high st, omega arith, existing st d n ts h)
step_at st d state.AfterExist t ts h = tt
step_at st d state.AfterMinus (token.Number n) ts h = (needs_high st, omega arith, opposing st d n ts h)
step_at st d state.AfterMinus t ts h = tt
step_at st d (state.AfterIn e) (token.Name n) ts h = (h.0, omega arith, looking st d e n ts h.1)
step_at st d (state.AfterIn e) t ts h = tt
step_at st d (state.Done m e) (token.Operator o) ts h =
    joined_at d o (reduction (level o) st m e) ts (settles (level o) st d m e ts h.0 h.1 h.2)
step_at st d (state.Done m e) token.Within ts h =
    looked_at d (reduction 4 st m e) ts (settles 4 st d m e ts h.0 h.1 h.2)
step_at st d (state.Done m e) token.Close ts h =
    let s = reduction 0 st m e in closed_at d s.0 s.1 s.2 ts (settles 0 st d m e ts h.0 h.1 h.2)
step_at st d (state.Done m e) t ts h = tt

then_run : (t : Token) (us : List Token)
    → ((next : MachineState) (xs : List Token) → At next.stack next.depth next.state xs → After (run next us) (xs ++ us))
    → (r : Result MachineState Stop) (ts : List Token) → After r (ts ++ t ∷ [])
    → After (r >>= λ next. run next us) (ts ++ t ∷ us)
then_run t us more (Ok s) ts h =
    subst (λ (xs : List Token). After (run s us) xs) (append_assoc ts (t ∷ []) us) (more s (ts ++ t ∷ []) h)
then_run t us more (Err e) ts h = tt

pub run_at : (us : List Token) (s : MachineState) (ts : List Token) → At s.stack s.depth s.state ts
    → After (run s us) (ts ++ us)
run_at [] s ts h = subst (λ (xs : List Token). At s.stack s.depth s.state xs) (sym (append-nil ts)) h
run_at (t ∷ us) s ts h =
    then_run t us (λ next xs. run_at us next xs) (step s t) ts (step_at s.stack s.depth s.state t ts h)

pub begins : (us : List Token) → After (run start us) us
begins us = run_at us start [] (refl, refl)

ends : (s : List Frame × ℕ × Expr) (ts : List Token) (d : ℕ) (e : Expr) → Settles 0 d s ts → whole s ≡ Ok e
    → Sentence ts e
ends ([], m, f) ts d e h is =
    let room : 64 - d ≡ 64 = omega (arith, h.holds.before.0) in
    let same : f ≡ e = cc in
    record {
      phrase = h.holds.phrase;
      fits = fits_lower h.holds.phrase 1 m h.needed h.holds.fits;
      shallow = subst (λ (r : ℕ). Shallow r h.holds.phrase) room h.holds.shallow;
      spelled = sym (h.holds.spelled ∙ ap (λ (xs : List Token). xs ++ tokens h.holds.phrase) h.holds.before.1);
      tree_is = h.holds.tree_is ∙ same;
    }
ends (f ∷ st, m, g) ts d e h is = absurd (cc)

ends_at : (s : State) (st : List Frame) (d : ℕ) (ts : List Token) (e : Expr) → At st d s ts → end_of st s ≡ Ok e
    → Sentence ts e
ends_at (state.Done m f) st d ts e h is = ends (reduction 0 st m f) ts d e (settles 0 st d m f ts h.0 h.1 h.2) is
ends_at state.Operand st d ts e h is = absurd (cc)
ends_at state.AfterExist st d ts e h is = absurd (cc)
ends_at state.AfterMinus st d ts e h is = absurd (cc)
ends_at (state.AfterIn f) st d ts e h is = absurd (cc)

finds_after : (r : Result MachineState Stop) (ts : List Token) (e : Expr) → After r ts
    → (r >>= λ s. end_of s.stack s.state) ≡ Ok e → Sentence ts e
finds_after (Ok s) ts e h is = ends_at s.state s.stack s.depth ts e h is
finds_after (Err x) ts e h is = absurd (cc)

-- what is read is a sentence
pub finds : (ts : List Token) (e : Expr) → read ts ≡ Ok e → Sentence ts e
finds ts e is = finds_after (run start ts) ts e (begins ts) is

viable_after : (r : Result MachineState Stop) (s : MachineState) (ts : List Token) → After r ts → r ≡ Ok s → Viable ts
viable_after (Ok x) s ts h is = goes_on x.stack x.depth x.state ts h
viable_after (Err x) s ts h is = absurd (cc)

-- what is taken may go on to a sentence
pub viable : (ts : List Token) (s : MachineState) → run start ts ≡ Ok s → Viable ts
viable ts s is = viable_after (run start ts) s ts (begins ts) is

-- what is not taken begins no sentence
pub not_viable : (ts : List Token) (s : MachineState) (t : Token) (e : Stop) → run start ts ≡ Ok s → step s t ≡ Err e
    → Viable (ts ++ t ∷ []) → ⊥
not_viable ts s t e is refused v =
    let all : run start ((ts ++ t ∷ []) ++ v.more) ≡ Err e =
    run-append (ts ++ t ∷ []) start v.more ∙ rw (run-append ts start (t ∷ [])) (rw is (rw refused refl)) in
    let failed : read ((ts ++ t ∷ []) ++ v.more) ≡ Err e = rw all refl in
    let taken : read ((ts ++ t ∷ []) ++ v.more) ≡ Ok v.expr = reads ((ts ++ t ∷ []) ++ v.more) v.expr v.sentence in
    cc
