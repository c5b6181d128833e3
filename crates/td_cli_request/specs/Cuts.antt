-- Words that are cut at a mark.
use Rattle.std.specs.Prelude.{ℕ, ◌+◌, nat_eq, Bool, List, take, drop, codes, if◌then◌else◌, Option, option_map}
use Rattle.std.specs.List.{position}
use Rattle.std.specs.Str.{bytes_eq}

abbrev pub is_mark : ℕ → ℕ → Bool
is_mark mark b = nat_eq b mark

-- what stands in front of a place, and what stands behind it
abbrev pub cut_at : ℕ → List ℕ → List ℕ × List ℕ
cut_at n text = (take n text, drop 1 (drop n text))

abbrev pub cut_first : (mark : ℕ) → List ℕ → Option (List ℕ × List ℕ)
cut_first mark text = option_map (λ n. cut_at n text) (position (is_mark mark) text)

-- where a type ends: at the first colon, or of a sequence at the one behind `seq:`
abbrev pub type_end : List ℕ → Option ℕ
type_end text =
    if bytes_eq (take 4 text) (codes "seq:") then option_map (λ n. n + 4)
    (position (is_mark 58) (drop 4 text))
    else position (is_mark 58) text

-- the word for a type, and what stands behind the colon that ends it
abbrev pub cut_type : List ℕ → Option (List ℕ × List ℕ)
cut_type text = option_map (λ n. cut_at n text) (type_end text)
