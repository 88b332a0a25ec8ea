-- Lines found byte by byte, with what stands before the next line end carried along: the same for any cutting, and the lines of the input.
use Prim.Native.Nat.{ℕ, suc, ◌≤◌, ◌<◌}
use mathlib.Core.Path.{◌≡◌, refl, sym, ap, ◌∙◌}
use mathlib.Core.Bool.{Bool, true, false}
use mathlib.Core.List.{List, [], ◌∷◌, ◌++◌, append-nil}
use native.Mathlib.Omega.{arith}
use lib.Dec.{eqb}
use lib.ListN.{length, take, drop}
use lib.Seq.{append_snoc}
use Rattle.terms.specs.Words.{pick}
use Rattle.lines.specs.Text.{onto, before}
use Rattle.lines.specs.Input.{line_end, lines_of}

-- the lines that end in s, where p is what stands before it in the first of them
unfoldable pub full : List ℕ → List ℕ → List (List ℕ)
full p [] = []
full p (c ∷ s) = pick (eqb c line_end) (p ∷ full [] s) (full (p ++ (c ∷ [])) s)

-- and what stands behind the last line end
unfoldable pub left : List ℕ → List ℕ → List ℕ
left p [] = p
left p (c ∷ s) = pick (eqb c line_end) (left [] s) (left (p ++ (c ∷ [])) s)

-- a line that no line end closes
abbrev pub tail : List ℕ → List (List ℕ)
tail [] = []
tail (c ∷ p) = (c ∷ p) ∷ []

pub full_append : (s t p : List ℕ) → full p (s ++ t) ≡ full p s ++ full (left p s) t
unfolding full left
full_append [] t p = refl
full_append (c ∷ s) t p = go (eqb c line_end) (full_append s t []) (full_append s t (p ++ (c ∷ [])))
  where
    go : (b : Bool) → full [] (s ++ t) ≡ full [] s ++ full (left [] s) t
        → full (p ++ (c ∷ [])) (s ++ t) ≡ full (p ++ (c ∷ [])) s ++ full (left (p ++ (c ∷ [])) s) t
        → pick b (p ∷ full [] (s ++ t)) (full (p ++ (c ∷ [])) (s ++ t))
        ≡ pick b (p ∷ full [] s) (full (p ++ (c ∷ [])) s) ++ full (pick b (left [] s) (left (p ++ (c ∷ [])) s)) t
    go true e f = ap (λ (l : List (List ℕ)). p ∷ l) e
    go false e f = f

pub left_append : (s t p : List ℕ) → left p (s ++ t) ≡ left (left p s) t
unfolding left
left_append [] t p = refl
left_append (c ∷ s) t p = go (eqb c line_end) (left_append s t []) (left_append s t (p ++ (c ∷ [])))
  where
    go : (b : Bool) → left [] (s ++ t) ≡ left (left [] s) t → left (p ++ (c ∷ [])) (s ++ t) ≡ left (left (p ++ (c ∷ [])) s) t
        → pick b (left [] (s ++ t)) (left (p ++ (c ∷ [])) (s ++ t)) ≡ left (pick b (left [] s) (left (p ++ (c ∷ [])) s)) t
    go true e f = e
    go false e f = f

-- up to the first line end
pub cut_line : (d p : List ℕ) → before line_end d < length d
    → (full p d ≡ (p ++ take (before line_end d) d) ∷ full [] (drop (suc (before line_end d)) d))
    × (left p d ≡ left [] (drop (suc (before line_end d)) d))
unfolding full left before
cut_line [] p h = absurd (omega arith)
cut_line (c ∷ d) p h = go (eqb c line_end) h (cut_line d (p ++ (c ∷ [])))
  where
    go : (b : Bool) → pick b 0 (suc (before line_end d)) < suc (length d)
        → (before line_end d < length d
        → (full (p ++ (c ∷ [])) d ≡ ((p ++ (c ∷ [])) ++ take (before line_end d) d) ∷ full [] (drop (suc (before line_end d)) d))
        × (left (p ++ (c ∷ [])) d ≡ left [] (drop (suc (before line_end d)) d)))
        → (pick b (p ∷ full [] d) (full (p ++ (c ∷ [])) d)
        ≡ (p ++ take (pick b 0 (suc (before line_end d))) (c ∷ d)) ∷ full [] (drop (suc (pick b 0 (suc (before line_end d)))) (c ∷ d)))
        × (pick b (left [] d) (left (p ++ (c ∷ [])) d) ≡ left [] (drop (suc (pick b 0 (suc (before line_end d)))) (c ∷ d)))
    go true h ih = (ap (λ (q : List ℕ). q ∷ full [] d) (sym (append-nil p)), refl)
    go false h ih =
        let w = ih (omega arith) in
        (w.0 ∙ ap (λ (q : List ℕ). q ∷ full [] (drop (suc (before line_end d)) d)) (append_snoc p c (take (before line_end d) d)), w.1)

pub cut_rest : (d p : List ℕ) → length d ≤ before line_end d → (full p d ≡ []) × (left p d ≡ p ++ d)
unfolding full left before
cut_rest [] p h = (refl, sym (append-nil p))
cut_rest (c ∷ d) p h = go (eqb c line_end) h (cut_rest d (p ++ (c ∷ [])))
  where
    go : (b : Bool) → suc (length d) ≤ pick b 0 (suc (before line_end d))
        → (length d ≤ before line_end d → (full (p ++ (c ∷ [])) d ≡ []) × (left (p ++ (c ∷ [])) d ≡ (p ++ (c ∷ [])) ++ d))
        → (pick b (p ∷ full [] d) (full (p ++ (c ∷ [])) d) ≡ []) × (pick b (left [] d) (left (p ++ (c ∷ [])) d) ≡ p ++ (c ∷ d))
    go true h ih = absurd (omega arith)
    go false h ih = let w = ih (omega arith) in (w.0, w.1 ∙ append_snoc p c d)

-- the lines of the input, behind p
abbrev behind : List ℕ → List (List ℕ) → List (List ℕ)
behind p [] = tail p
behind p (f ∷ fs) = (p ++ f) ∷ fs

behind_nothing : (l : List (List ℕ)) → behind [] l ≡ l
behind_nothing [] = refl
behind_nothing (f ∷ fs) = refl

tail_some : (p : List ℕ) (c : ℕ) → tail (p ++ (c ∷ [])) ≡ (p ++ (c ∷ [])) ∷ []
tail_some [] c = refl
tail_some (d ∷ p) c = refl

behind_onto : (p : List ℕ) (c : ℕ) (l : List (List ℕ)) → behind (p ++ (c ∷ [])) l ≡ behind p (onto c l)
unfolding onto
behind_onto p c [] = tail_some p c
behind_onto p c (f ∷ fs) = ap (λ (q : List ℕ). q ∷ fs) (append_snoc p c f)

full_lines : (s p : List ℕ) → full p s ++ tail (left p s) ≡ behind p (lines_of s)
unfolding full left lines_of
full_lines [] p = refl
full_lines (c ∷ s) p = go (eqb c line_end) (full_lines s []) (full_lines s (p ++ (c ∷ [])))
  where
    go : (b : Bool) → full [] s ++ tail (left [] s) ≡ behind [] (lines_of s)
        → full (p ++ (c ∷ [])) s ++ tail (left (p ++ (c ∷ [])) s) ≡ behind (p ++ (c ∷ [])) (lines_of s)
        → pick b (p ∷ full [] s) (full (p ++ (c ∷ [])) s) ++ tail (pick b (left [] s) (left (p ++ (c ∷ [])) s))
        ≡ behind p (pick b ([] ∷ lines_of s) (onto c (lines_of s)))
    go true e f = ap (λ (l : List (List ℕ)). p ∷ l) (e ∙ behind_nothing (lines_of s)) ∙ ap (λ (q : List ℕ). q ∷ lines_of s) (sym (append-nil p))
    go false e f = f ∙ behind_onto p c (lines_of s)

pub all_lines : (s : List ℕ) → full [] s ++ tail (left [] s) ≡ lines_of s
all_lines s = full_lines s [] ∙ behind_nothing (lines_of s)
