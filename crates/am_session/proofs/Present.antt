-- A reply to a file that is there doesn't say that it is absent.
use Rattle.std.proofs.Common.{◌≡◌, ℕ, ◌-◌, ◌∷◌, ◌++◌, List, [], length, Bool, true, false, cond, ◌||◌, inl, inr, refl, sym, ap, subst, ◌∙◌, Option, Some, None}
use Rattle.std.specs.Prelude.{nat_le, codes, bytes_eq, take}
use Rattle.std.proofs.lemmas.Slice.Eq.{bytes_eq-Decides}
use Rattle.serde_json.specs.Data.{Members, object, depth}
use Rattle.serde_json.specs.Written.{compact_text}
use Rattle.am_frame.specs.Frames.{Chunk}
use Rattle.am_frame.specs.declared.FrameFault.{FrameFault}
use Rattle.am_frame.specs.declared.FrameFault.TheVariants.{BadMagic, Truncated, BadLength, BadChecksum, ChunkType, CompressedChunk}
use Rattle.am_types.specs.declared.Entry.{Entry}
use Rattle.am_types.specs.declared.Hash.{Hash}
use Rattle.am_types.specs.declared.Rejected.{Rejected}
use Rattle.am_types.specs.Members.{Member}
use Rattle.am_json.specs.Shown.{json_data, object_within}
use Rattle.am_json.specs.declared.Form.{Form}
use Rattle.am_json.specs.declared.Form.TheVariants as forms
use Rattle.am_session.specs.Session.{Held}
use Rattle.am_store.specs.declared.LoadFault.{LoadFault}
use Rattle.am_store.specs.declared.LoadFault.TheVariants as load
use Rattle.am_session.specs.Replies.{newline, refused, is_refused, absent, is_absent, unknown, kept_reply}
use Rattle.am_session.specs.Listing.{Lists, listing, bad_chunk}
use Rattle.am_session.specs.Apply.{Applies, outcome, report_text, bad_file}
use Rattle.am_session.specs.Reading.{DEEPEST, printed, reading_by, reading}
use Rattle.am_store.specs.Kept.{Kept}
use Rattle.am_session.specs.Views.{Shows}
use Rattle.am_session.specs.Stats.{stats_text}
use Rattle.am_session.specs.Bench.{MOST, generated, measures, measured, measured_as_shown, bench_text}

-- a reply that begins with ok, or with what every document begins with
abbrev pub begins_told : List ℕ → Bool
begins_told reply = bytes_eq (take 3 reply) (codes "ok ") || bytes_eq (take 1 reply) (codes "{")

pub told_is_there : (reply : List ℕ) → begins_told reply ≡ true → is_absent reply ≡ false
told_is_there reply told = elim (is_absent reply) as (λ b. is_absent reply ≡ b → b ≡ false) [
  | true ↦ λ is. let same : reply ≡ absent = (bytes_eq-Decides reply absent).0 is in absurd (never (subst (λ r. begins_told r ≡ true) same told))
  | false ↦ λ is. refl
] refl
  where
    never : begins_told absent ≡ true → ⊥
    never e = cc

pub kept_is_there : (count : ℕ) → is_absent (kept_reply count) ≡ false
kept_is_there count = told_is_there (kept_reply count) refl

pub unknown_there : (hash : Hash) → is_absent (unknown hash) ≡ false
unknown_there hash = refl

listed_there : (chunks : List Chunk) → is_absent (listing chunks) ≡ false
listed_there chunks = told_is_there (listing chunks) refl

bad_there : (fault : FrameFault) (k : ℕ) → is_absent (bad_chunk fault k) ≡ false
bad_there BadMagic k = refl
bad_there Truncated k = refl
bad_there BadLength k = refl
bad_there BadChecksum k = refl
bad_there (ChunkType type) k = refl
bad_there CompressedChunk k = refl

pub listing_is_there : (bytes reply : List ℕ) → Lists (Some bytes) reply → is_absent reply ≡ false
listing_is_there bytes reply (inl p) = ap is_absent p.2 ∙ listed_there p.0
listing_is_there bytes reply (inr p) = ap is_absent p.3 ∙ bad_there p.1 p.0

reported_there : (added waiting : ℕ) (rejected : List Rejected) → is_absent (report_text added waiting rejected) ≡ false
reported_there added waiting rejected = told_is_there (report_text added waiting rejected) refl

bad_file_there : (fault : LoadFault) (k : ℕ) → is_absent (bad_file fault k) ≡ false
bad_file_there load.BadMagic k = refl
bad_file_there load.Truncated k = refl
bad_file_there load.BadLength k = refl
bad_file_there load.BadChecksum k = refl
bad_file_there (load.ChunkType type) k = refl
bad_file_there load.CompressedChunk k = refl
bad_file_there load.DocumentHere k = refl
bad_file_there load.CompressedColumn k = refl
bad_file_there load.BadChange k = refl
bad_file_there load.BadDocument k = refl
bad_file_there load.NoHistory k = refl
bad_file_there (load.HeadsMismatch hash) k = refl

pub applied_is_there : (only : Bool) (bytes reply : List ℕ) (old new : Held) → Applies only (Some bytes) old reply new → is_absent reply ≡ false
applied_is_there only bytes reply old new (inl p) = ap is_absent p.2.reply_is ∙ reported_there (length (outcome old.kept p.0).closed - length old.kept.closed) (length (outcome old.kept p.0).waiting) (outcome old.kept p.0).rejected
applied_is_there only bytes reply old new (inr p) = ap is_absent p.3 ∙ bad_file_there p.1 p.0

-- what a document shows is an object
is_object : (form : Form) (entries : List Entry) → (members : Members) × (json_data form entries ≡ object members)
unfolding object_within
is_object forms.Winners entries = (_, refl)
is_object forms.All entries = (_, refl)

printed_there : (form : Form) (entries : List Entry) → is_absent (printed (json_data form entries)) ≡ false
printed_there form entries =
    let shown = is_object form entries in
    subst (λ d. is_absent (printed d) ≡ false) (sym shown.1) (by (nat_le (depth (object shown.0)) DEEPEST) shown.0)
  where
    by : (fits : Bool) (members : Members) → is_absent (cond fits (compact_text (object members) ++ newline ∷ []) (refused (codes "deep"))) ≡ false
    by true members = told_is_there (compact_text (object members) ++ newline ∷ []) refl
    by false members = refl

reading_by_there : (found : Option Hash) (form : Form) (entries : List Entry) → is_absent (reading_by found form entries) ≡ false
reading_by_there (Some hash) form entries = unknown_there hash
reading_by_there None form entries = printed_there form entries

pub reading_is_there : (form : Form) (named : List Hash) (C : List Member) (reply : List ℕ) → reply ≡ reading form named C → is_absent reply ≡ false
reading_is_there form named C reply e = ap is_absent e ∙ reading_by_there _ form _

pub shown_is_there : (form : Form) (named : List Hash) (old new : Held) (reply : List ℕ) → Shows form named old reply new → is_absent reply ≡ false
shown_is_there form named old new reply shows = reading_is_there form named old.kept.closed reply shows.0

pub stats_is_there : (k : Kept) (hits : ℕ) (reply : List ℕ) → reply ≡ stats_text k hits → is_absent reply ≡ false
stats_is_there k hits reply e = ap is_absent e ∙ told_is_there (stats_text k hits) refl

measured_there : (C : List Member) (shown : List ℕ) → is_absent shown ≡ false → is_absent (measured C shown) ≡ false
measured_there C shown there = by (is_refused shown)
  where
    by : (b : Bool) → is_absent (cond b shown (measures C shown)) ≡ false
    by true = there
    by false = told_is_there (measures C shown) refl

as_shown_there : (C : List Member) → is_absent (measured_as_shown C) ≡ false
as_shown_there C = measured_there C (reading forms.Winners [] C) (reading_is_there forms.Winners [] C (reading forms.Winners [] C) refl)

pub bench_is_there : (count : ℕ) (reply : List ℕ) → reply ≡ bench_text count → is_absent reply ≡ false
bench_is_there count reply e = ap is_absent e ∙ by (nat_le count MOST)
  where
    by : (b : Bool) → is_absent (cond b (measured_as_shown (generated count)) (refused (codes "syntax"))) ≡ false
    by true = as_shown_there (generated count)
    by false = refl
