-- The frames of guests, one after the other.
use Rattle.std.proofs.Common.{◌≡◌, ℕ, zero, suc, ◌+◌, ◌<◌, ◌≤◌, List, [], ◌∷◌, length, map, take, get_or, ap, ◌∙◌, subst, arith, add-one}
use Rattle.std.proofs.lemmas.List.{take_all}
use Rattle.frame_split.specs.Shares.{frames_of_all}
use Rattle.guest_settings.specs.Needs.{frames_needed}
use Rattle.guest_turns.specs.Sources.{need_of_source, needs_of_sources}
use Rattle.nesthv_top.specs.declared.ends.GuestFiles.{GuestFiles}
use Rattle.nesthv_top.specs.Loads.{source_read}

-- the frames of guests with what was read for them, and of one
abbrev pub frames_by : List GuestFiles → ℕ
frames_by read = frames_of_all (needs_of_sources (map source_read read))

abbrev pub frames_of_one : GuestFiles → ℕ
frames_of_one read = frames_needed (need_of_source (source_read read))

more : (read : List GuestFiles) (i : ℕ) (d : GuestFiles) → i < length read → frames_by (take (suc i) read) ≡ frames_by (take i read) + frames_of_one (get_or read i d)
more [] i d inside = absurd (omega (arith, inside))
more (r ∷ read) zero d inside = omega arith
more (r ∷ read) (suc i) d inside = let later = more read i d (omega (arith, inside)) in omega (arith, later)

pub frames_more : (read : List GuestFiles) (i sum one : ℕ) (files : GuestFiles) → i < length read → files ≡ get_or read i files
    → sum ≡ frames_by (take i read) → one ≡ frames_of_one files → sum + one ≡ frames_by (take (i + 1) read)
frames_more read i sum one files inside is before here =
    let next : one ≡ frames_of_one (get_or read i files) = subst (λ f. one ≡ frames_of_one f) is here in
    rw (add-one i) (omega (arith, before, next, more read i files inside))

pub frames_all : (read : List GuestFiles) (i sum : ℕ) → length read ≤ i → sum ≡ frames_by (take i read) → sum ≡ frames_by read
frames_all read i sum all is = is ∙ ap frames_by (take_all i read all)
