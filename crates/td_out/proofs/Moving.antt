-- Bytes that are moved from the front of what is left into a buffer.
use Rattle.std.proofs.Common.{◌≡◌, ℕ, ◌+◌, ◌-◌, ◌<◌, ◌≤◌, min, List, [], ◌++◌, length, take, drop, sym, ap, ◌∙◌, arith}
use Rattle.std.proofs.lemmas.List.{take-append-drop, take-append-le, take-take, take_rest, length-append, length-take}
use Rattle.std.proofs.lemmas.List.{length-drop, drop-drop, drop_all}

-- what was copied are the first bytes, and what is left follows them
pub moved : (bytes from into filled : List ℕ) (place size most : ℕ)
    → from ≡ take (length bytes - place) (drop place bytes) → size ≡ min most (min (length from) (length into))
    → filled ≡ take size from ++ drop size into → drop place bytes ≡ take size filled ++ drop (place + size) bytes
moved bytes from into filled place size most whole s f =
    let rest : from ≡ drop place bytes = whole ∙ take_rest bytes place in
    let front : take size filled ≡ take size (drop place bytes) =
    ap (take size) f ∙ take-append-le size (take size from) (drop size into) (rw length-take (omega arith))
    ∙ take-take size size from (omega arith) ∙ ap (take size) rest in
    rw (front, ← drop-drop size place bytes) (sym (take-append-drop size (drop place bytes)))

-- none are copied into room only where none are left
pub ends : (bytes from into filled : List ℕ) (place size most : ℕ)
    → from ≡ take (length bytes - place) (drop place bytes) → size ≡ min most (min (length from) (length into))
    → filled ≡ take size from ++ drop size into → 1 ≤ most → size ≡ 0 → 0 < length filled
    → drop (place + size) bytes ≡ []
ends bytes from into filled place size most whole s f m z r =
    let rest : length from ≡ length bytes - place =
    ap length (whole ∙ take_rest bytes place) ∙ length-drop place bytes in
    let room : length filled ≡ min size (length from) + (length into - size) =
    ap length f ∙ length-append (take size from) (drop size into) ∙ (simp (length-take, length-drop)) in
    drop_all (place + size) bytes (omega arith)
