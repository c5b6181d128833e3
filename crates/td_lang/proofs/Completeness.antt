-- Each sentence of the grammar is read.
use Rattle.std.proofs.Common.{pos, neg_ℤ, ◌≡◌, ℕ, suc, ◌+◌, ◌-◌, ◌<◌, ◌≤◌, true, List, [], ◌∷◌, ◌++◌, Result, Ok, Err}
use Rattle.std.proofs.Common.{refl, sym, ap, ◌∙◌, arith}
use Rattle.std.proofs.lemmas.Bool.{lt-ltb, le-ltb}
use Rattle.td_lang.specs.declared.expr.Op.{Op}
use Rattle.td_lang.specs.declared.expr.Op.TheVariants as op
use Rattle.td_lang.specs.declared.expr.Expr.{Expr}
use Rattle.td_lang.specs.declared.expr.Expr.TheVariants as expr
use Rattle.td_lang.specs.declared.token.Token.{Token}
use Rattle.td_lang.specs.declared.token.Token.TheVariants as token
use Rattle.td_lang.specs.declared.machine.Frame.{Frame}
use Rattle.td_lang.specs.declared.machine.Frame.TheVariants as frame
use Rattle.td_lang.specs.declared.machine.State.TheVariants as state
use Rattle.td_lang.specs.declared.machine.Stop.{Stop}
use Rattle.td_lang.specs.Levels.{level, left, right}
use Rattle.td_lang.specs.Machine.{MachineState, stand, step, reduction, takes_not}
use Rattle.td_lang.specs.Grammar.{Phrase, Operation, Within, Negation, Existence, PropertyName, Numeral, Negative}
use Rattle.td_lang.specs.Grammar.{Quoted, Truth, Parenthesis, IsOfLevel, tokens, tree, Shallow, Sentence}
use Rattle.td_lang.specs.Reading.{◌>>=◌, run, start, read}

pub level-left : (o : Op) → level o ≤ left o
level-left op.Or = omega arith
level-left op.And = omega arith
level-left op.Eq = omega arith
level-left op.Ne = omega arith
level-left op.Lt = omega arith
level-left op.Le = omega arith
level-left op.Gt = omega arith
level-left op.Ge = omega arith
level-left op.Twiddle = omega arith
level-left op.Add = omega arith
level-left op.Sub = omega arith
level-left op.Mul = omega arith
level-left op.Div = omega arith

pub level-right : (o : Op) → right o ≡ suc (level o)
level-right op.Or = refl
level-right op.And = refl
level-right op.Eq = refl
level-right op.Ne = refl
level-right op.Lt = refl
level-right op.Le = refl
level-right op.Gt = refl
level-right op.Ge = refl
level-right op.Twiddle = refl
level-right op.Add = refl
level-right op.Sub = refl
level-right op.Mul = refl
level-right op.Div = refl

pub level-high : (o : Op) → level o ≤ 7
level-high op.Or = omega arith
level-high op.And = omega arith
level-high op.Eq = omega arith
level-high op.Ne = omega arith
level-high op.Lt = omega arith
level-high op.Le = omega arith
level-high op.Gt = omega arith
level-high op.Ge = omega arith
level-high op.Twiddle = omega arith
level-high op.Add = omega arith
level-high op.Sub = omega arith
level-high op.Mul = omega arith
level-high op.Div = omega arith

pub level-low : (o : Op) → 1 ≤ level o
level-low op.Or = omega arith
level-low op.And = omega arith
level-low op.Eq = omega arith
level-low op.Ne = omega arith
level-low op.Lt = omega arith
level-low op.Le = omega arith
level-low op.Gt = omega arith
level-low op.Ge = omega arith
level-low op.Twiddle = omega arith
level-low op.Add = omega arith
level-low op.Sub = omega arith
level-low op.Mul = omega arith
level-low op.Div = omega arith

pub left-high : (o : Op) → left o ≤ 7
left-high op.Or = omega arith
left-high op.And = omega arith
left-high op.Eq = omega arith
left-high op.Ne = omega arith
left-high op.Lt = omega arith
left-high op.Le = omega arith
left-high op.Gt = omega arith
left-high op.Ge = omega arith
left-high op.Twiddle = omega arith
left-high op.Add = omega arith
left-high op.Sub = omega arith
left-high op.Mul = omega arith
left-high op.Div = omega arith

-- the level of a phrase
abbrev pub rank : Phrase → ℕ
rank (Operation o a b) = level o
rank (Within a name) = 4
rank (Negation a) = 8
rank (Existence name) = 9
rank (PropertyName name) = 9
rank (Numeral n) = 9
rank (Negative n) = 9
rank (Quoted t) = 9
rank (Truth b) = 9
rank (Parenthesis a) = 9

pub fits-rank : (l : ℕ) (c : Phrase) → IsOfLevel l c → l ≤ rank c
fits-rank l (Operation o a b) f = f.0
fits-rank l (Within a name) f = f.0
fits-rank l (Negation a) f = f.0
fits-rank l (Existence name) f = f
fits-rank l (PropertyName name) f = f
fits-rank l (Numeral n) f = f
fits-rank l (Negative n) f = f
fits-rank l (Quoted t) f = f
fits-rank l (Truth b) f = f
fits-rank l (Parenthesis a) f = f.0

-- the least level that the top frame takes
abbrev pub needs : List Frame → ℕ
needs [] = 1
needs (frame.Binary o a ∷ st) = right o
needs (frame.Not ∷ st) = 9
needs (frame.Open ∷ st) = 1

bind_same : {A B : Type 0} (r : Result A Stop) (f g : A → Result B Stop) → ((x : A) → f x ≡ g x) → (r >>= f) ≡ (r >>= g)
bind_same (Ok x) f g h = h x
bind_same (Err e) f g h = refl

bind_assoc : {A B C : Type 0} (r : Result A Stop) (f : A → Result B Stop) (g : B → Result C Stop)
    → (r >>= f) >>= g ≡ r >>= (λ x. f x >>= g)
bind_assoc (Ok x) f g = refl
bind_assoc (Err e) f g = refl

pub run-append : (xs : List Token) (s : MachineState) (ys : List Token) → run s (xs ++ ys) ≡ run s xs >>= (λ next. run next ys)
run-append [] s ys = refl
run-append (t ∷ xs) s ys =
    bind_same (step s t) (λ next. run next (xs ++ ys)) (λ next. run next xs >>= λ last. run last ys)
    (λ next. run-append xs next ys)
    ∙ sym (bind_assoc (step s t) (λ next. run next xs) (λ last. run last ys))

pub settled_here : (n : ℕ) (st : List Frame) (m : ℕ) (e : Expr) → needs st ≤ n → n ≤ 8 → reduction n st m e ≡ (st, m, e)
settled_here n [] m e h k = refl
settled_here n (frame.Binary o a ∷ st) m e h k = rw (le-ltb n (right o) h) refl
settled_here n (frame.Not ∷ st) m e h k = absurd (omega arith)
settled_here n (frame.Open ∷ st) m e h k = refl

pub settled_on : (n : ℕ) (o : Op) (a : Expr) (st : List Frame) (m : ℕ) (e : Expr) → n < right o
    → reduction n (frame.Binary o a ∷ st) m e ≡ reduction n st (level o) (expr.Binary o a e)
settled_on n o a st m e h = rw (lt-ltb n (right o) h) refl

-- after the phrase the reader stands as if its tree were one operand, up to what is finished before something of level
-- l or below
pub record Reached (l d : ℕ) (st : List Frame) (c : Phrase) : Type 0 where
  pub left_stack : List Frame
  pub left_level : ℕ
  pub left_expr : Expr
  pub runs : run (stand d st state.Operand) (tokens c) ≡ Ok (stand d left_stack (state.Done left_level left_expr))
  pub settles : (n : ℕ) → n ≤ l → reduction n left_stack left_level left_expr ≡ reduction n st (rank c) (tree c)

joined_reached : (o : Op) (a b : Phrase) (l d : ℕ) (st : List Frame) → l ≤ level o → needs st ≤ l → left o ≤ rank a
    → Reached (left o) d st a → Reached (right o) d (frame.Binary o (tree a) ∷ st) b → Reached l d st (Operation o a b)
joined_reached o a b l d st low need ranked ra rb =
    let here : reduction (level o) ra.left_stack ra.left_level ra.left_expr ≡ (st, rank a, tree a) =
    ra.settles (level o) (level-left o)
    ∙ settled_here (level o) st (rank a) (tree a) (omega arith) (omega (arith, level-high o)) in
    record {
      left_stack = rb.left_stack;
      left_level = rb.left_level;
      left_expr = rb.left_expr;
      runs =
          run-append (tokens a) (stand d st state.Operand) (token.Operator o ∷ tokens b)
          ∙ rw ra.runs (rw here (rw (le-ltb (rank a) (left o) ranked) rb.runs));
      settles =
          λ n h. rb.settles n (omega (arith, level-right o))
          ∙ settled_on n o (tree a) st (rank b) (tree b) (omega (arith, level-right o));
    }

within_reached : (a : Phrase) (name : List ℕ) (l d : ℕ) (st : List Frame) → l ≤ 4 → needs st ≤ l → 5 ≤ rank a
    → Reached 5 d st a → Reached l d st (Within a name)
within_reached a name l d st low need ranked ra =
    let here : reduction 4 ra.left_stack ra.left_level ra.left_expr ≡ (st, rank a, tree a) =
    ra.settles 4 (omega arith) ∙ settled_here 4 st (rank a) (tree a) (omega arith) (omega arith) in
    record {
      left_stack = st;
      left_level = 4;
      left_expr = expr.Within (tree a) name;
      runs =
          run-append (tokens a) (stand d st state.Operand) (token.Within ∷ token.Name name ∷ [])
          ∙ rw ra.runs (rw here (rw (le-ltb (rank a) 5 ranked) refl));
      settles = λ n h. refl;
    }

takes_not-needs : (st : List Frame) → needs st ≤ 8 → takes_not st ≡ true
takes_not-needs [] h = refl
takes_not-needs (frame.Binary o a ∷ st) h = refl
takes_not-needs (frame.Not ∷ st) h = absurd (omega arith)
takes_not-needs (frame.Open ∷ st) h = refl

denied_reached : (a : Phrase) (l d : ℕ) (st : List Frame) → l ≤ 8 → needs st ≤ l → Reached 9 d (frame.Not ∷ st) a
    → Reached l d st (Negation a)
denied_reached a l d st low need ra = record {
  left_stack = ra.left_stack;
  left_level = ra.left_level;
  left_expr = ra.left_expr;
  runs = rw (takes_not-needs st (omega arith)) ra.runs;
  settles = λ n h. ra.settles n (omega arith);
}

enclosed_reached : (a : Phrase) (l d : ℕ) (st : List Frame) → d < 64 → Reached 1 (d + 1) (frame.Open ∷ st) a
    → Reached l d st (Parenthesis a)
enclosed_reached a l d st room ra =
    let here : reduction 0 ra.left_stack ra.left_level ra.left_expr ≡ (frame.Open ∷ st, rank a, tree a) =
    ra.settles 0 (omega arith) in
    let back : d + 1 - 1 ≡ d = omega arith in
    record {
      left_stack = st;
      left_level = 9;
      left_expr = tree a;
      runs =
          rw (lt-ltb d 64 room) (run-append (tokens a) (stand (d + 1) (frame.Open ∷ st) state.Operand)
          (token.Close ∷ [])
          ∙ rw ra.runs (rw here (rw back refl)));
      settles = λ n h. refl;
    }

pub complete : (c : Phrase) (l r d : ℕ) (st : List Frame) → IsOfLevel l c → Shallow r c → d + r ≤ 64 → needs st ≤ l
    → Reached l d st c
complete (Operation o a b) l r d st f s room need =
    joined_reached o a b l d st f.0 need (fits-rank (left o) a f.1)
    (complete a (left o) r d st f.1 s.0 room (omega (arith, level-left o, f.0)))
    (complete b (right o) r d (frame.Binary o (tree a) ∷ st) f.2 s.1 room (omega arith))
complete (Within a name) l r d st f s room need =
    within_reached a name l d st f.0 need (fits-rank 5 a f.1) (complete a 5 r d st f.1 s room (omega (arith, f.0)))
complete (Negation a) l r d st f s room need =
    denied_reached a l d st f.0 need (complete a 9 r d (frame.Not ∷ st) f.1 s room (omega arith))
complete (Existence name) l r d st f s room need = record {
  left_stack = st;
  left_level = 9;
  left_expr = expr.Exist name;
  runs = refl;
  settles = λ n h. refl;
}
complete (PropertyName name) l r d st f s room need = record {
  left_stack = st;
  left_level = 9;
  left_expr = expr.Name name;
  runs = refl;
  settles = λ n h. refl;
}
complete (Numeral k) l r d st f s room need = record {
  left_stack = st;
  left_level = 9;
  left_expr = expr.Number (pos k);
  runs = refl;
  settles = λ n h. refl;
}
complete (Negative k) l r d st f s room need = record {
  left_stack = st;
  left_level = 9;
  left_expr = expr.Number (neg_ℤ (pos k));
  runs = refl;
  settles = λ n h. refl;
}
complete (Quoted t) l r d st f s room need = record {
  left_stack = st;
  left_level = 9;
  left_expr = expr.Str t;
  runs = refl;
  settles = λ n h. refl;
}
complete (Truth b) l r d st f s room need = record {
  left_stack = st;
  left_level = 9;
  left_expr = expr.Truth b;
  runs = refl;
  settles = λ n h. refl;
}
complete (Parenthesis a) l r d st f s room need =
    enclosed_reached a l d st (omega (arith, s.0))
    (complete a 1 (r - 1) (d + 1) (frame.Open ∷ st) f.1 s.1 (omega (arith, s.0)) (omega arith))

-- each sentence is read, and gives its tree
pub reads : (ts : List Token) (e : Expr) → Sentence ts e → read ts ≡ Ok e
reads ts e s =
    let r = complete s.phrase 1 64 0 [] s.fits s.shallow (omega arith) (omega arith) in
    let runs : run start ts ≡ Ok (stand 0 r.left_stack (state.Done r.left_level r.left_expr)) =
    rw s.spelled at r.runs in
    let over : reduction 0 r.left_stack r.left_level r.left_expr ≡ ([], rank s.phrase, tree s.phrase) =
    r.settles 0 (omega arith) in
    rw runs (rw over (ap (λ (x : Expr). Ok x) s.tree_is))

-- no list of tokens has two trees
pub one_tree : (ts : List Token) (e f : Expr) → Sentence ts e → Sentence ts f → e ≡ f
one_tree ts e f s t = let h = sym (reads ts e s) ∙ reads ts f t in cc
