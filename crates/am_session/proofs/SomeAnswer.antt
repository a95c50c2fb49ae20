-- The machine has some reply to what is asked, where the file that a command reads is absent or can be told.
use Rattle.std.proofs.Common.{◌≡◌, ℕ, ◌-◌, List, length, codes, Bool, true, false, Option, Some, None, refl, sym, subst, inl, inr}
use Rattle.std.specs.Prelude.{IfSome}
use Rattle.std.proofs.lemmas.List.Sorted.{IsPermutation-refl}
use Rattle.am_types.specs.declared.Hash.{Hash}
use Rattle.am_types.specs.Order.{hash_cmp, sorted_by}
use Rattle.am_types.specs.Members.{heads, hashes}
use Rattle.am_outside.specs.Files.{Stands}
use Rattle.am_frame.specs.Faults as frame
use Rattle.am_json.specs.declared.Form.{Form}
use Rattle.am_json.specs.declared.Form.TheVariants as form
use Rattle.am_store.specs.AnyFile.{IsRead}
use Rattle.am_store.specs.History.{history}
use Rattle.am_store.specs.Saved.{document, saved_all, chunk_in}
use Rattle.am_script.specs.declared.Command.TheVariants.{Frames, Apply, Load, Save, SaveAll, Heads, Waiting, History, Show, Conflicts, Audit, Export, Stats, Bench}
use Rattle.am_session.specs.declared.request.Request.{Request}
use Rattle.am_session.specs.declared.request.Request.TheVariants.{Do, LongLine, Syntax, BadHash}
use Rattle.am_session.specs.Session.{Held, with_kept, with_views}
use Rattle.am_session.specs.Replies.{refused, absent, unknown, hash_list, kept_reply}
use Rattle.am_session.specs.Listing.{Lists, listing, bad_chunk}
use Rattle.am_session.specs.Apply.{Applies, outcome, report_text, bad_file}
use Rattle.am_session.specs.Reading.{named_or_heads, reading, reading_at}
use Rattle.am_session.specs.Views.{view_at, viewed}
use Rattle.am_session.specs.Stats.{stats_text}
use Rattle.am_session.specs.History.{history_text}
use Rattle.am_session.specs.Bench.{bench_text}
use Rattle.am_session.specs.Machine.{State, state, with_file, Exports, Replied, read_file}

-- what these bytes are found to be by each command that reads a file
pub record AreTold (bytes : List ℕ) : Type 0 where
  pub frames : frame.IsRead bytes
  pub changes : IsRead true bytes
  pub file : IsRead false bytes

pub some_found : (bytes : List ℕ) (found : Option (List ℕ)) → AreTold bytes → IfSome found (λ file. file ≡ bytes) → IfSome found AreTold
some_found bytes None told same = same
some_found bytes (Some file) told same = subst AreTold (sym same) told

-- ---- frames

record Listed (found : Option (List ℕ)) : Type 0 where
  reply : List ℕ
  lists : Lists found reply

listed_from : (bytes : List ℕ) → frame.IsRead bytes → Listed (Some bytes)
listed_from bytes (inl p) = record { reply = listing p.0; lists = inl (p.0, p.1, refl) }
listed_from bytes (inr p) = record { reply = bad_chunk p.1 p.0; lists = inr (p.0, p.1, p.2, refl) }

some_listing : (found : Option (List ℕ)) → IfSome found AreTold → Listed found
some_listing None told = record { reply = absent; lists = refl }
some_listing (Some bytes) told = listed_from bytes told.frames

-- ---- apply and load

record Applied (only : Bool) (found : Option (List ℕ)) (old : Held) : Type 0 where
  reply : List ℕ
  new : Held
  applies : Applies only found old reply new

applied_from : (only : Bool) (bytes : List ℕ) (old : Held) → IsRead only bytes → Applied only (Some bytes) old
applied_from only bytes old (inl p) =
    let sets = outcome old.kept p.0 in
    record {
      reply = report_text (length sets.closed - length old.kept.closed) (length sets.waiting) sets.rejected;
      new = with_kept old (record { closed = sets.closed; waiting = sets.waiting });
      applies = inl (p.0, p.1, record { closed = IsPermutation-refl sets.closed; waiting = IsPermutation-refl sets.waiting; reply_is = refl }, refl);
    }
applied_from only bytes old (inr p) = record { reply = bad_file p.1 p.0; new = old; applies = inr (p.0, p.1, p.2, refl, refl) }

absent_applied : (only : Bool) (old : Held) → Applied only None old
absent_applied only old = record { reply = absent; new = old; applies = (refl, refl) }

some_changes : (found : Option (List ℕ)) (old : Held) → IfSome found AreTold → Applied true found old
some_changes None old told = absent_applied true old
some_changes (Some bytes) old told = applied_from true bytes old told.changes

some_file : (found : Option (List ℕ)) (old : Held) → IfSome found AreTold → Applied false found old
some_file None old told = absent_applied false old
some_file (Some bytes) old told = applied_from false bytes old told.file

-- ---- what keeps a file, and what prints

record Exported (found : Option (List ℕ)) (old : State) (hash : Hash) (name : List ℕ) : Type 0 where
  reply : List ℕ
  new : State
  exports : Exports found old hash name reply new

some_export : (found : Option (List ℕ)) (old : State) (hash : Hash) (name : List ℕ) → Exported found old hash name
some_export None old hash name = record { reply = unknown hash; new = old; exports = (refl, refl) }
some_export (Some chunk) old hash name = record { reply = kept_reply (length chunk); new = state old.held (with_file name chunk old.files); exports = (refl, refl) }

-- what is held once a view at these hashes was printed
abbrev shown : Form → List Hash → Held → Held
shown way hs old = with_views old (viewed (view_at way hs) (reading_at way hs old.kept.closed) old.views)

-- ---- all that is asked

pub some_reply : (asked : Request) (old : State) (found : Option (List ℕ)) → IfSome found AreTold → IfSome (read_file asked) (λ name. Stands old.files name found) → Replied old asked
some_reply (Do (Frames name)) old found told stands =
    let listed = some_listing found told in
    (listed.reply, old, (found, stands, listed.lists, refl))
some_reply (Do (Apply name)) old found told stands =
    let applied = some_changes found old.held told in
    (applied.reply, state applied.new old.files, (found, stands, applied.applies, refl))
some_reply (Do (Load name)) old found told stands =
    let applied = some_file found old.held told in
    (applied.reply, state applied.new old.files, (found, stands, applied.applies, refl))
some_reply (Do (Save name)) old found told stands =
    let bytes = document old.held.kept.closed in
    (kept_reply (length bytes), state old.held (with_file name bytes old.files), (refl, refl))
some_reply (Do (SaveAll name)) old found told stands =
    let bytes = saved_all old.held.kept in
    (kept_reply (length bytes), state old.held (with_file name bytes old.files), (refl, refl))
some_reply (Do Heads) old found told stands = (hash_list (heads old.held.kept.closed), old, (refl, refl))
some_reply (Do Waiting) old found told stands = (hash_list (sorted_by hash_cmp (hashes old.held.kept.waiting)), old, (refl, refl))
some_reply (Do History) old found told stands = (history_text (history old.held.kept.closed), old, (refl, refl))
some_reply (Do (Show named)) old found told stands =
    let hs = named_or_heads named old.held.kept.closed in
    (reading_at form.Winners hs old.held.kept.closed, state (shown form.Winners hs old.held) old.files, ((refl, refl), refl))
some_reply (Do (Conflicts named)) old found told stands =
    let hs = named_or_heads named old.held.kept.closed in
    (reading_at form.All hs old.held.kept.closed, state (shown form.All hs old.held) old.files, ((refl, refl), refl))
some_reply (Do (Audit named)) old found told stands = (reading form.Winners named old.held.kept.closed, old, (refl, refl))
some_reply (Do (Export hash name)) old found told stands =
    let exported = some_export (chunk_in old.held.kept.closed hash) old hash name in
    (exported.reply, exported.new, exported.exports)
some_reply (Do Stats) old found told stands = (stats_text old.held.kept old.held.views.hits, old, (refl, refl))
some_reply (Do (Bench count)) old found told stands = (bench_text count, old, (refl, refl))
some_reply LongLine old found told stands = (refused (codes "line"), old, (refl, refl))
some_reply Syntax old found told stands = (refused (codes "syntax"), old, (refl, refl))
some_reply BadHash old found told stands = (refused (codes "hash"), old, (refl, refl))
