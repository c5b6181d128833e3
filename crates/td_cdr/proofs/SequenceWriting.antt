-- Writing one member more.
use Rattle.std.proofs.Common.{◌≡◌, ℕ, ◌+◌, ◌<◌, List, [], ◌∷◌, ◌++◌, length, take, map, get_or, sym, ap, ◌∙◌}
use Rattle.std.proofs.Common.{append_assoc, add-zero, length-append, arith}
use Rattle.std.proofs.lemmas.List.{take_more, map_push, append-nil}
use Rattle.td_cdr.specs.declared.order.Order.{Order}
use Rattle.td_cdr.specs.Format.{Piece, row}

pub row-push : (ps : List Piece) (p : Piece) (order : Order) (place : ℕ)
    → row (ps ++ p ∷ []) order place ≡ row ps order place ++ p order (place + length (row ps order place))
row-push [] p order place = rw (add-zero) (append-nil (p order place))
row-push (q ∷ ps) p order place =
    let place' = place + length (q order place) in
    let e : place' + length (row ps order place') ≡ place + length (q order place ++ row ps order place') =
    omega (arith, length-append (q order place) (row ps order place')) in
    ap (λ (x : List ℕ). q order place ++ x) (row-push ps p order place')
    ∙ sym (append_assoc (q order place) (row ps order place') (p order (place' + length (row ps order place'))))
    ∙ ap (λ (k : ℕ). (q order place ++ row ps order place') ++ p order k) e

pub goes_on : {X : Type 0} (w : X → Piece) (items : List X) (i : ℕ) (m : X) (order : Order) (base now next : List ℕ)
    → i < length items → m ≡ get_or items i m → now ≡ base ++ row (map w (take i items)) order (length base)
    → next ≡ now ++ w m order (length now) → next ≡ base ++ row (map w (take (i + 1) items)) order (length base)
goes_on {X = X} w items i m order base now next lt is so_far step =
    let done = row (map w (take i items)) order (length base) in
    let len : length now ≡ length base + length done = ap (length {A = ℕ}) so_far ∙ length-append base done in
    let one : take (i + 1) items ≡ take i items ++ m ∷ [] =
    take_more items i m lt ∙ ap (λ (x : X). take i items ++ x ∷ []) (sym is) in
    let here : row (map w (take (i + 1) items)) order (length base) ≡ done ++ w m order (length base + length done) =
    ap (λ (ms : List X). row (map w ms) order (length base)) one
    ∙ ap (λ (ps : List Piece). row ps order (length base)) (map_push w (take i items) m)
    ∙ row-push (map w (take i items)) (w m) order (length base) in
    step ∙ ap (λ (k : ℕ). now ++ w m order k) len
    ∙ ap (λ (x : List ℕ). x ++ w m order (length base + length done)) so_far
    ∙ append_assoc base done (w m order (length base + length done)) ∙ ap (λ (x : List ℕ). base ++ x) (sym here)
