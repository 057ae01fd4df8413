-- What is read for guests, one after the other, and the guests that are made of it.
use Rattle.std.specs.List.{All}
use Rattle.std.proofs.Common.{◌≡◌, ◌∙◌, ℕ, zero, suc, ◌+◌, ◌<◌, ◌≤◌, List, [], ◌∷◌, ◌++◌, Option, Some, None, true, false, length, map, take, drop, get_or, refl, inl, ap, sym, subst, arith, append_assoc, add-one, length-append}
use Rattle.std.proofs.lemmas.Bool.{le-leb, lt-leb}
use Rattle.std.proofs.lemmas.List.{append-nil, map-append, take_all, take_more}
use Rattle.std.proofs.lemmas.List.Elements.{All-append, All-cons, All-map, All-nil}
use Rattle.guest_save.specs.Deciding.{is_saved}
use Rattle.guest_settings.specs.Inputs.{AreInputs}
use Rattle.machine_defs.specs.Bootable.{IsBootable}
use Rattle.guest_turns.specs.Sources.{IsBootableSource}
use Rattle.outside.specs.Asks.{Ask}
use Rattle.outside.specs.Files.{Files}
use Rattle.run_config.specs.Faults as fault
use Rattle.run_config.specs.declared.guests.InputSource.{InputSource}
use Rattle.run_config.specs.declared.guests.InputSource.TheVariants.{Pairs, File}
use Rattle.run_config.specs.declared.guests.FreshGuest.{FreshGuest}
use Rattle.run_config.specs.declared.guests.Origin.{Origin}
use Rattle.run_config.specs.declared.guests.Origin.TheVariants as origin
use Rattle.run_config.specs.Configurations.{IsSourceWithin}
use Rattle.run_config.proofs.Recording.{records_are_inputs}
use Rattle.run_config.specs.declared.guests.GuestSettings.{GuestSettings}
use Rattle.nesthv_top.specs.declared.ends.FreshFiles.{FreshFiles}
use Rattle.nesthv_top.specs.declared.ends.GuestFiles.{GuestFiles}
use Rattle.nesthv_top.specs.declared.ends.GuestFiles.TheVariants.{Fresh, Saved}
use Rattle.nesthv_top.specs.Contents.{guest_ram_size, inputs_from, source_by, sources_of}
use Rattle.nesthv_top.specs.Loads.{name_read, source_read, spec_read, AreGood, AreReadFor, IsFitting, IsFreshFitting}
use Rattle.nesthv_top.specs.Reads.{guest_steps, guests_steps, image_fault, origin_steps, saved_fault}
use Rattle.nesthv_top.specs.Plans.{name_of_source}
use Rattle.nesthv_top.specs.Seen.{names_in, names_of_sources}
use Rattle.nesthv_top.specs.Steps.{asks_in, IsShort}
use Rattle.nesthv_top.proofs.StepLists.{asked_none, asks_then}

-- whether an image fits
pub image_fits : (number : ℕ) (guest : FreshGuest) (image : List ℕ) → length image ≤ guest_ram_size guest → image_fault number guest image ≡ None
image_fits number guest image fits = rw (le-leb (length image) (guest_ram_size guest) fits) refl

pub image_too_long : (number : ℕ) (guest : FreshGuest) (image : List ℕ) → guest_ram_size guest < length image
    → image_fault number guest image ≡ Some (fault.image_long number (length image))
image_too_long number guest image long = rw (lt-leb (length image) (guest_ram_size guest) long) refl

-- whether a file is a saved machine
pub saved_good : (number : ℕ) (bytes : List ℕ) → is_saved bytes ≡ true → saved_fault number bytes ≡ None
saved_good number bytes is = rw is refl

pub saved_bad : (number : ℕ) (bytes : List ℕ) → is_saved bytes ≡ false → saved_fault number bytes ≡ Some (fault.saved number)
saved_bad number bytes is = rw is refl

-- the steps of the first i guests, of the next one, and of those that follow
pub steps_split : (files : Files) (before number i : ℕ) (guests : List GuestSettings) (d : GuestSettings) → i < length guests → number ≡ before + i
    → guests_steps files before guests
    ≡ guests_steps files before (take i guests) ++ (guest_steps files number (get_or guests i d) ++ guests_steps files (number + 1) (drop (suc i) guests))
unfolding guests_steps
steps_split files before number i [] d inside is = absurd (omega (arith, inside))
steps_split files before number zero (guest ∷ rest) d inside is =
    let same : number ≡ before = omega (arith, is) in
    ap (λ n. guest_steps files n guest ++ guests_steps files (n + 1) rest) (sym same)
steps_split files before number (suc i) (guest ∷ rest) d inside is =
    ap (λ steps. guest_steps files before guest ++ steps) (steps_split files (before + 1) number i rest d (omega (arith, inside)) (omega (arith, is)))
    ∙ sym (append_assoc (guest_steps files before guest) (guests_steps files (before + 1) (take i rest))
    (guest_steps files number (get_or rest i d) ++ guests_steps files (number + 1) (drop (suc i) rest)))

pub steps_next : (files : Files) (before number i : ℕ) (guests : List GuestSettings) (d : GuestSettings) → i < length guests → number ≡ before + i
    → guests_steps files before (take (suc i) guests) ≡ guests_steps files before (take i guests) ++ guest_steps files number (get_or guests i d)
unfolding guests_steps
steps_next files before number i [] d inside is = absurd (omega (arith, inside))
steps_next files before number zero (guest ∷ rest) d inside is =
    let same : number ≡ before = omega (arith, is) in
    append-nil (guest_steps files before guest) ∙ ap (λ n. guest_steps files n guest) (sym same)
steps_next files before number (suc i) (guest ∷ rest) d inside is =
    ap (λ steps. guest_steps files before guest ++ steps) (steps_next files (before + 1) number i rest d (omega (arith, inside)) (omega (arith, is)))
    ∙ sym (append_assoc (guest_steps files before guest) (guests_steps files (before + 1) (take i rest)) (guest_steps files number (get_or rest i d)))

pub none_steps : (files : Files) → guests_steps files 0 [] ≡ []
unfolding guests_steps
none_steps files = refl

-- what the files say for one guest more
pub sources_next : (files : Files) (settings : List GuestSettings) (i : ℕ) (guest : GuestSettings) (read : List GuestFiles) (one : GuestFiles) → i < length settings → guest ≡ get_or settings i guest
    → map source_read read ≡ sources_of files (take i settings) → source_read one ≡ source_by files guest.name guest.origin
    → map source_read (read ++ one ∷ []) ≡ sources_of files (take (suc i) settings)
sources_next files settings i guest read one inside is read_is one_is =
    let more : take (suc i) settings ≡ take i settings ++ guest ∷ [] = rw (add-one i) at (take_more settings i guest inside ∙ ap (λ g. take i settings ++ g ∷ []) (sym is)) in
    rw more (map-append source_read read (one ∷ [])
    ∙ ap (λ sources. sources ++ source_read one ∷ []) read_is ∙ ap (λ source. sources_of files (take i settings) ++ source ∷ []) one_is
    ∙ sym (map-append (λ (g : GuestSettings). source_by files g.name g.origin) (take i settings) (guest ∷ [])))

-- memory ran out before the first read
asks_first : (files : Files) (number : ℕ) (begin : Origin) → 1 ≤ length (asks_in (origin_steps files number begin))
asks_first files number (origin.Fresh guest) = omega arith
asks_first files number (origin.Saved name) = omega arith

pub short_first : (files : Files) (settings : List GuestSettings) (made : ℕ) (before : Option (List Ask)) → 1 ≤ length settings → IsShort (guests_steps files 0 settings) made made before before
unfolding guests_steps
short_first files [] made before some = absurd (omega (arith, some))
short_first files (guest ∷ rest) made before some = record {
  passed = [];
  rest = guests_steps files 0 (guest ∷ rest);
  split = refl;
  fault = refl;
  asked = asked_none before;
  number = omega arith;
  left = λ read. inl (rw (asks_then (guest_steps files 0 guest) (guests_steps files 1 rest)) (omega (
    arith,
    asks_first files 0 guest.origin,
    length-append (asks_in (guest_steps files 0 guest)) (asks_in (guests_steps files 1 rest)),
  )));
}

-- what passes the tests
pub read_for_none : AreReadFor [] []
read_for_none = record { names = refl; fitting = All-nil IsFitting }

pub read_for_more : (settings : List GuestSettings) (i : ℕ) (guest : GuestSettings) (read : List GuestFiles) (one : GuestFiles) → i < length settings → guest ≡ get_or settings i guest
    → AreReadFor (take i settings) read → name_read one ≡ guest.name → IsFitting one → AreReadFor (take (i + 1) settings) (read ++ one ∷ [])
read_for_more settings i guest read one inside is before named fits =
    let more : take (i + 1) settings ≡ take i settings ++ guest ∷ [] = take_more settings i guest inside ∙ ap (λ g. take i settings ++ g ∷ []) (sym is) in
    rw more (record {
      names = map-append name_read read (one ∷ []) ∙ ap (λ names. names ++ name_read one ∷ []) before.names ∙ ap (λ name. names_in (take i settings) ++ name ∷ []) named
          ∙ sym (map-append (λ (g : GuestSettings). g.name) (take i settings) (guest ∷ []));
      fitting = All-append IsFitting read (one ∷ []) before.fitting (All-cons IsFitting one [] fits (All-nil IsFitting));
    })

pub read_for_all : (settings : List GuestSettings) (i : ℕ) (read : List GuestFiles) → length settings ≤ i → AreReadFor (take i settings) read → AreReadFor settings read
read_for_all settings i read end all = subst (λ guests. AreReadFor guests read) (take_all i settings end) all

-- the names of the guests that are made
source_name : (read : GuestFiles) → name_of_source (source_read read) ≡ name_read read
source_name (Fresh read) = refl
source_name (Saved name saved) = refl

pub made_names : (read : List GuestFiles) → names_of_sources (map source_read read) ≡ map name_read read
made_names [] = refl
made_names (one ∷ read) = ap (λ name. name ∷ names_of_sources (map source_read read)) (source_name one) ∙ ap (λ names. name_read one ∷ names) (made_names read)

inputs_good : (source : InputSource) (bytes : List ℕ) → IsSourceWithin source → AreGood source bytes → AreInputs (inputs_from source bytes)
inputs_good (Pairs inputs) bytes within good = within.inputs
inputs_good (File name) bytes within good = records_are_inputs bytes good

-- they can be booted
fresh_bootable : (read : FreshFiles) → IsFreshFitting read → IsBootable (spec_read read)
fresh_bootable read fits = record {
  some_block = fits.limits.blocks_some;
  blocks = fits.limits.blocks_most;
  some_space = fits.limits.spaces_some;
  spaces = fits.limits.spaces_most;
  some_entries = fits.limits.entries_least;
  entries = fits.limits.entries_most;
  console = fits.limits.console_most;
  image = fits.image;
  inputs = inputs_good read.guest.now.input read.records fits.limits.input fits.records;
}

made_bootable : (read : GuestFiles) → IsFitting read → IsBootableSource (source_read read)
made_bootable (Fresh read) fits = fresh_bootable read fits
made_bootable (Saved name saved) fits = fits

pub all_bootable : (read : List GuestFiles) → All IsFitting read → All IsBootableSource (map source_read read)
all_bootable read fits = All-map IsBootableSource source_read read (λ i d inside. made_bootable (get_or read i d) (fits i d inside))
