-- What a set holds where no frame was added, and after one was.
use Rattle.std.specs.Prelude.{nat_lt}
use Rattle.std.proofs.Common.{◌≡◌, ◌≢◌, ℕ, ◌+◌, ◌-◌, ◌%◌, ◌^◌, ◌⊎◌, inl, inr, cond, Bool, true, false, ◌==◌, List, length, replicate, set, slice_index, refl, sym, ap, ◌∙◌, arith}
use Rattle.std.proofs.lemmas.Bool.{both_ways, cases_eq, eq-eqb, ne_eqb, or_left, or_right}
use Rattle.std.proofs.lemmas.List.{get_or-replicate, get_or-set_same, get_or-set_other}
use Rattle.translation_buffer.specs.declared.frame_sets.FrameSet.{FrameSet}
use Rattle.translation_buffer.specs.Holding.{has_frame, is_key, key_of}

-- what stands at a mark
key_some : (frame : ℕ) → 0 ≢ key_of frame
key_some frame = by (nat_lt frame (2 ^ 64 - 1))
  where
    by : (less : Bool) → 0 ≢ cond less (frame + 1) (2 ^ 64 - 1)
    by true none = absurd (omega (arith, none))
    by false none = absurd (omega (arith, none))

pub is_none : (frame : ℕ) → is_key 0 frame ≡ false
is_none frame = rw (ne_eqb 0 (key_of frame) (key_some frame)) refl

is_own : (key frame : ℕ) → key ≡ key_of frame → is_key key frame ≡ true
is_own key frame is = or_left (key == key_of frame) (key == 2 ^ 64 - 1) (eq-eqb key (key_of frame) is)

is_several : (frame : ℕ) → is_key (2 ^ 64 - 1) frame ≡ true
is_several frame = or_right (2 ^ 64 - 1 == key_of frame) (2 ^ 64 - 1 == 2 ^ 64 - 1) refl

-- no frame is held where 0 stands
pub none_held : (frames : FrameSet) → frames.held ≡ replicate 4096 0 → (frame : ℕ) → has_frame frames frame ≡ false
unfolding has_frame
none_held frames none frame = ap (λ n. is_key n frame) (ap (λ (keys : List ℕ). slice_index keys (frame % 4096)) none ∙ get_or-replicate {A = ℕ} 4096 (frame % 4096) 0 0 (omega arith)) ∙ is_none frame

pub none_there : (key frame : ℕ) → key ≡ 0 → false ≡ is_key key frame
none_there key frame none = sym (ap (λ n. is_key n frame) none ∙ is_none frame)

pub ruleset asking = (none_there)

-- what stands at one mark changes nothing at another
pub apart_kept : (frames : FrameSet) (frame key other : ℕ) → other % 4096 ≢ frame % 4096 → has_frame (record frames { held = set frames.held (frame % 4096) key }) other ≡ has_frame frames other
unfolding has_frame
apart_kept frames frame key other apart = ap (λ n. is_key n other) (get_or-set_other frames.held (frame % 4096) (other % 4096) key 0 apart)

-- a first frame at a mark
pub first_more : (frames : FrameSet) (frame key other : ℕ) → slice_index frames.held (frame % 4096) ≡ 0 → has_frame frames other ≡ true
    → has_frame (record frames { held = set frames.held (frame % 4096) key }) other ≡ true
unfolding has_frame
first_more frames frame key other none has = apart_kept frames frame key other
    (λ same. both_ways (has_frame frames other) (sym (none_there (slice_index frames.held (other % 4096)) other (ap (slice_index frames.held) same ∙ none))) has) ∙ has

pub first_held : (frames : FrameSet) (frame key : ℕ) → length frames.held ≡ 4096 → key ≡ key_of frame → has_frame (record frames { held = set frames.held (frame % 4096) key }) frame ≡ true
unfolding has_frame
first_held frames frame key size is = ap (λ n. is_key n frame) (get_or-set_same frames.held (frame % 4096) key 0 (omega (arith, size))) ∙ is_own key frame is

-- one more at a mark
several_held : (frames : FrameSet) (frame other : ℕ) → length frames.held ≡ 4096 → other % 4096 ≡ frame % 4096
    → has_frame (record frames { held = set frames.held (frame % 4096) (2 ^ 64 - 1) }) other ≡ true
unfolding has_frame
several_held frames frame other size same = ap (λ n. is_key n other)
    (ap (slice_index (set frames.held (frame % 4096) (2 ^ 64 - 1))) same ∙ get_or-set_same frames.held (frame % 4096) (2 ^ 64 - 1) 0 (omega (arith, size))) ∙ is_several other

pub several_more : (frames : FrameSet) (frame other : ℕ) → length frames.held ≡ 4096 → has_frame frames other ≡ true
    → has_frame (record frames { held = set frames.held (frame % 4096) (2 ^ 64 - 1) }) other ≡ true
several_more frames frame other size has = by (cases_eq (other % 4096) (frame % 4096))
  where
    by : (other % 4096 ≡ frame % 4096) ⊎ (other % 4096 ≢ frame % 4096) → has_frame (record frames { held = set frames.held (frame % 4096) (2 ^ 64 - 1) }) other ≡ true
    by (inl same) = several_held frames frame other size same
    by (inr apart) = apart_kept frames frame (2 ^ 64 - 1) other apart ∙ has

pub several_own : (frames : FrameSet) (frame : ℕ) → length frames.held ≡ 4096 → has_frame (record frames { held = set frames.held (frame % 4096) (2 ^ 64 - 1) }) frame ≡ true
several_own frames frame size = several_held frames frame frame size refl

pub ruleset joining = (first_more, first_held, several_more, several_own)

-- the same one once more
pub held_already : (frames : FrameSet) (frame key : ℕ) → key ≡ key_of frame → slice_index frames.held (frame % 4096) ≡ key → has_frame frames frame ≡ true
unfolding has_frame
held_already frames frame key own same = is_own (slice_index frames.held (frame % 4096)) frame (same ∙ own)
