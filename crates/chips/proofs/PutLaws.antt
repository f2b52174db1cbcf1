-- Cells received into a part of buffers.
use mathlib.Core.Path.{◌≡◌, sym, ap, ◌∙◌}
use Prim.Native.Nat.{ℕ, ◌+◌, ◌-◌, ◌≤◌, ◌<◌}
use native.Mathlib.Omega.{arith}
use mathlib.Core.List.{List}
use mathlib.Core.Logic.{◌⊎◌, inl, inr}
use lib.ListN.{length, get_or, take, drop}
use lib.Seq.{get_or-take, get_or-drop, length-take-le}
use borrow.Rule.Slice.PartMut.{put_mid}
use Rattle.lists.specs.Lists.{over}
use Rattle.lists.proofs.PartLaws.{part_long}
use Rattle.lists.proofs.OverLaws.{over_length, lent_over}
use Rattle.lists.proofs.OverIndexLaws.{over_below, over_inside, over_above}
use Rattle.window.specs.Images.{overlaid, image}
use Rattle.window.proofs.ViewLaws.{length_overlaid}
use Rattle.chips.specs.Boards.{buffers_of}
use Rattle.chips.specs.Promises.{chosen, Renewed}
use Rattle.chips.proofs.ReceiveLaws.{laid_at}

-- a list put in place of the part from `at` to `to` of another: inside, and outside
module _ (l part : List ℕ) (at to : ℕ) (rises : at ≤ to) (fit : to ≤ length l) (long : length part ≡ to - at) where
  put_over : put_mid at (to - at) l part ≡ over l at part
  put_over = lent_over at (to - at) l part (sym long)

  pub put_length : length (put_mid at (to - at) l part) ≡ length l
  put_length = ap length put_over ∙ over_length l at part (omega arith)

  pub put_in : (j : ℕ) → at ≤ j → j < to → get_or (put_mid at (to - at) l part) j 0 ≡ get_or part (j - at) 0
  put_in j h u = ap (λ (x : List ℕ). get_or x j 0) put_over ∙ over_inside l part at (omega arith) j h (omega arith)

  pub put_out : (j : ℕ) → (j < at) ⊎ (to ≤ j) → get_or (put_mid at (to - at) l part) j 0 ≡ get_or l j 0
  put_out j (inl h) = ap (λ (x : List ℕ). get_or x j 0) put_over ∙ over_below l part at (omega arith) j h
  put_out j (inr h) = ap (λ (x : List ℕ). get_or x j 0) put_over ∙ over_above l part at (omega arith) j (omega arith)

-- what `receive` leaves in the part from `at` to `to` of buffers that are lent
module _ (memory marks cells flags : List ℕ) (at to : ℕ) (rises : at ≤ to) (fit : to ≤ length memory) (same : length marks ≡ length memory)
    (some : to - at ≤ length cells) (all : to - at ≤ length flags) (m s : List ℕ) where
  abbrev part : List ℕ
  part = take (to - at) (drop at memory)

  part_length : length part ≡ to - at
  part_length = part_long memory at to rises fit

  abbrev own : List ℕ → List ℕ
  own xs = take (length part) xs

  own_length : (xs : List ℕ) → to - at ≤ length xs → length (own xs) ≡ length part
  own_length xs h = length-take-le (length part) xs (omega (arith, part_length))

  own_at : (xs : List ℕ) (i : ℕ) → i < to - at → get_or (own xs) i 0 ≡ get_or xs i 0
  own_at xs i h = get_or-take (length part) xs i 0 (omega (arith, part_length))

  old_at : (j : ℕ) → at ≤ j → j < to → get_or part (j - at) 0 ≡ get_or memory j 0
  old_at j h u =
      let e : at + (j - at) ≡ j = omega arith in
      get_or-take (to - at) (drop at memory) (j - at) 0 (omega arith) ∙ get_or-drop at memory (j - at) 0 ∙ ap (λ (x : ℕ). get_or memory x 0) e

  module _ (p : m ≡ overlaid part (image (own cells) (own flags))) (q : s ≡ own flags) where
    m_length : length m ≡ to - at
    m_length = ap length p ∙ length_overlaid part (image (own cells) (own flags)) ∙ part_length

    s_length : length s ≡ to - at
    s_length = ap length q ∙ own_length flags all ∙ part_length

    byte_at : (j : ℕ) → at ≤ j → j < to → get_or m (j - at) 0 ≡ chosen (get_or flags (j - at) 0) (get_or cells (j - at) 0) (get_or memory j 0)
    byte_at j h u =
        let i : ℕ = j - at in
        let l : i < to - at = omega arith in
        ap (λ (x : List ℕ). get_or x i 0) p
        ∙ laid_at part (own cells) (own flags) i (own_length cells some) (own_length flags all) (omega (arith, part_length))
        ∙ (λ t. chosen (own_at flags i l t) (own_at cells i l t) (old_at j h u t))

    pub part_received : Renewed (λ j. get_or cells (j - at) 0) (λ j. get_or flags (j - at) 0) at to (buffers_of memory marks)
        (buffers_of (put_mid at (to - at) memory m) (put_mid at (to - at) marks s))
    part_received = record {
      memory_long = put_length memory m at to rises fit m_length;
      marks_long = put_length marks s at to rises (rw same fit) s_length;
      memory_in = λ j h u i. put_in memory m at to rises fit m_length j h u ∙ byte_at j h u;
      marks_in = λ j h u i. put_in marks s at to rises (rw same fit) s_length j h u ∙ ap (λ (x : List ℕ). get_or x (j - at) 0) q ∙ own_at flags (j - at) (omega arith);
      memory_out = put_out memory m at to rises fit m_length;
      marks_out = put_out marks s at to rises (rw same fit) s_length;
    }
