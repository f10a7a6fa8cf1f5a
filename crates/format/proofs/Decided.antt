-- Whether a patch is well-formed is decided, section by section.
-- Assumes nothing.
use Prim.Native.Nat.{ℕ, ◌-◌}
use native.Mathlib.Decide.{ℕ_discrete, dec_le}
use mathlib.Core.Logic.Dec
use mathlib.Core.List.{List}
use lib.ListN.{length, get_or}
use Rattle.position.specs.Positions.{pad, ids_of, author_of}
use Rattle.position.proofs.Decided.{by_field, each_within?, identifier?, line_position?}
use Rattle.record.specs.Records.{count_of}
use Rattle.record.proofs.Decided.{counts_fit?}
use Rattle.format.specs.declared.Edit.{Edit}
use Rattle.format.specs.declared.Edit.TheVariants.{Insert, Delete}
use Rattle.format.specs.declared.Patch.{Patch}
use Rattle.format.specs.WellFormed.{NumberFits, HeadFits, BeforeFits, TextFits, LineFits, EditAgrees, WellFormed}

number_fits? : (n : ℕ) → Dec (NumberFits n)
number_fits? n = Dec.and (dec_le 1 n) (dec_le n 1000000)

head_fits? : (author number : ℕ) → Dec (HeadFits author number)
head_fits? author number =
    by_field (dec_le 1 author) (λ fits. fits.author_least) λ author_least.
    by_field (dec_le author 16) (λ fits. fits.author_most) λ author_most.
    by_field (number_fits? number) (λ fits. fits.numbered) λ numbered.
    yes (record { author_least = author_least; author_most = author_most; numbered = numbered })

before_fits? : (counts : List ℕ) → Dec (BeforeFits counts)
before_fits? counts =
    by_field (ℕ_discrete (length counts) 16) (λ fits. fits.size) λ size.
    by_field (counts_fit? counts) (λ fits. fits.most) λ most.
    yes (record { size = size; most = most })

text_fits? : (n : ℕ) (text : List ℕ) → Dec (TextFits n text)
text_fits? n text =
    by_field (ℕ_discrete (length text) 48) (λ fits. fits.size) λ size.
    by_field (each_within? (λ j. ℕ_discrete (get_or text j 0) 0) n 48) (λ fits. fits.unused) λ unused.
    yes (record { size = size; unused = unused })

line_fits? : (edit : Edit) (text : List ℕ) → Dec (LineFits edit text)
line_fits? (Insert n) text = Dec.and (dec_le n 48) (text_fits? n text)
line_fits? (Delete n) text = Dec.and (number_fits? n) (text_fits? 0 text)

edit_agrees? : (p : Patch) (edit : Edit) → Dec (EditAgrees p edit)
edit_agrees? p (Insert n) = ℕ_discrete (author_of (ids_of p.place)) p.author
edit_agrees? p (Delete n) =
    let site = author_of (ids_of p.place) in
    Dec.and (dec_le 1 site) (dec_le n (count_of p.before site))

pub well_formed? : (p : Patch) (text : List ℕ) → Dec (WellFormed p text)
well_formed? p text =
    by_field (head_fits? p.author p.number) (λ fits. fits.head) λ head.
    by_field (before_fits? p.before) (λ fits. fits.before) λ before.
    by_field (ℕ_discrete (count_of p.before p.author) (p.number - 1)) (λ fits. fits.own_entry) λ own_entry.
    by_field (line_position? (ids_of p.place)) (λ fits. fits.place) λ place.
    by_field (dec_le p.place.used 8) (λ fits. fits.used) λ used.
    by_field (ℕ_discrete (length p.place.ids) 8) (λ fits. fits.identifiers) λ identifiers.
    by_field (each_within? (λ j. identifier? (get_or p.place.ids j pad) pad) p.place.used 8) (λ fits. fits.unused) λ unused.
    by_field (line_fits? p.edit text) (λ fits. fits.line) λ line.
    by_field (edit_agrees? p p.edit) (λ fits. fits.edit) λ edit.
    yes (record {
      head = head;
      before = before;
      own_entry = own_entry;
      place = place;
      used = used;
      identifiers = identifiers;
      unused = unused;
      line = line;
      edit = edit;
    })
