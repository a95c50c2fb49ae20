-- The views that a session keeps. A view is a form and distinct hashes, ascending, at which something was printed.
--     each_once hs             the hashes, ascending, each once
--     view_at form hs          the view of this form at these hashes
--     used found view reply c  what is kept once this was replied at a view whose text was found, or wasn't
--     viewed view reply c      the same, and of a refusal nothing is kept
--     ShowsAt form hs old reply new      this is printed at these hashes, and the view is kept
--     Shows form named old reply new     the same at the hashes that are named, or at the heads
--     IsText C view text       the hashes of the view are held, and the text is what is printed there
--     AreTexts C c             each text that is kept is so
--     AreHeads C known         these are the heads of C, where they are known
use Rattle.std.specs.Prelude.{◌≡◌, ℕ, List, Option, None, Some, false, All, IsTrue, IfSome, if◌then◌else◌}
use Rattle.std.specs.List.{dedup}
use Rattle.am_types.specs.declared.Hash.{Hash}
use Rattle.am_types.specs.Order.{hash_cmp, sorted_by}
use Rattle.am_types.specs.Same.{same_hash}
use Rattle.am_types.specs.Members.{Member, holds, heads}
use Rattle.am_json.specs.declared.Form.{Form}
use Rattle.am_cache.specs.declared.View.{View}
use Rattle.am_cache.specs.Kept.{Kept, text_of, looked_up, with_text}
use Rattle.am_session.specs.Replies.{is_refused}
use Rattle.am_session.specs.Reading.{named_or_heads, reading_at}
use Rattle.am_session.specs.Session.{Held, with_views}

abbrev pub each_once : List Hash → List Hash
each_once hs = dedup same_hash (sorted_by hash_cmp hs)

abbrev pub view_at : Form → List Hash → View
view_at form hs = record { form = form; heads = each_once hs }

-- a view whose text is found goes first and counts as a hit; any other is put
abbrev pub used : Option (List ℕ) → View → List ℕ → Kept → Kept
used (Some text) view reply c = looked_up view c
used None view reply c = with_text view reply c

-- of a refusal nothing is kept
abbrev pub viewed : View → List ℕ → Kept → Kept
viewed view reply c = if is_refused reply then c else used (text_of view c) view reply c

abbrev pub ShowsAt : Form → List Hash → Held → List ℕ → Held → Type 0
ShowsAt form hs old reply new = (reply ≡ reading_at form hs old.kept.closed) × (new ≡ with_views old (viewed (view_at form hs) reply old.views))

abbrev pub Shows : Form → List Hash → Held → List ℕ → Held → Type 0
Shows form named old reply new = ShowsAt form (named_or_heads named old.kept.closed) old reply new

-- ---- what is kept

pub record IsText (C : List Member) (view : View) (text : List ℕ) : Type 0 where
  pub held : All (λ h. IsTrue (holds C h)) view.heads
  pub printed : text ≡ reading_at view.form view.heads C
  pub told : is_refused text ≡ false

-- what a session knows of the heads
abbrev pub AreHeads : List Member → Option (List Hash) → Type 0
AreHeads C known = IfSome known (λ hs. hs ≡ heads C)

abbrev pub AreTexts : List Member → Kept → Type 0
AreTexts C c = All (λ e. IsText C e.0 e.1) c.views
