-- What holds after any calls: each host's history is one of patches made, its bytes hold what they did, and every
-- patch made was received by its maker.
-- Assumes nothing.
use Prim.Native.Nat.{ℕ, ◌≤◌}
use native.Mathlib.Decide.{ℕ_discrete}
use borrow.Author.Tests.{eq-eqb, ne_eqb, eqb-true, eqb-false, ltb-true}
use mathlib.Core.Path.{◌≡◌, refl, sym, ap, ◌∙◌, subst}
use mathlib.Core.Bool.{Bool, true, false, cond, ◌||◌}
use mathlib.Core.Logic.{◌⊎◌, inl, inr, ⊎_elim, by_cases}
use mathlib.Core.List.Memᴰ
use mathlib.Core.List.{List, [], ◌∷◌, Memᴰ}
use lib.Dec.{eqb, ltb}
use lib.ListN.{length, take, get_or, replicate, length-replicate}
use Rattle.record.specs.Records.{record_size}
use Rattle.script.specs.Lines.{table_size}
use Rattle.effect.proofs.Keeps.{SoundHeld}
use Rattle.host.specs.Calls.{Called, OwnCalled, receive_bytes, insert_bytes, delete_bytes}
use Rattle.exercise.specs.World.{Host, World, keeps, begin, Site, Call, insert, delete, receive, changed, own, offer, step, run}
use Rattle.exercise.specs.Scripts.{patch_of}
use Rattle.exercise.proofs.Members.{mem_at}
use Rattle.exercise.proofs.Tied.{Holding, OwnTold, start_holds, insert_tells, insert_stays, delete_tells, delete_stays}
use Rattle.exercise.proofs.Received.{ReceivedTold, receive_done_tells, receive_stays}
use Rattle.exercise.proofs.History.{after, after_site, History, after_sound}

-- a host of an exercise in which these patches have been made
pub record Kept (site : ℕ) (made : List (List ℕ)) (h : Host) : Type 0 where
  pub history : History site h.received
  pub holds : Holding (after site h.received) h.state h.table
  pub from : (b : List ℕ) → Memᴰ b h.received → Memᴰ b made

-- a patch made: its author is a site, which has received it
pub record Authored (hosts : ℕ → Host) (b : List ℕ) : Type 0 where
  pub least : 1 ≤ (patch_of b).author
  pub most : (patch_of b).author ≤ 16
  pub received : Memᴰ b (hosts (patch_of b).author).received

pub record Fair (w : World) : Type 0 where
  pub kept : (s : Site) → Kept s.number w.made (w.host s.number)
  pub authored : (b : List ℕ) → Memᴰ b w.made → Authored w.host b

-- One host changed: it is kept, has received no less, and any new patch is its own.
module _ (w : World) (fair : Fair w) (s : Site) (h : Host) (made : List (List ℕ))
    (kept : Kept s.number made h)
    (older : (b : List ℕ) → Memᴰ b w.made → Memᴰ b made)
    (more : (b : List ℕ) → Memᴰ b (w.host s.number).received → Memᴰ b h.received)
    (new : (b : List ℕ) → Memᴰ b made → Memᴰ b w.made ⊎ (((patch_of b).author ≡ s.number) × Memᴰ b h.received)) where
  abbrev hosts : ℕ → Host
  hosts = changed w.host s.number h

  at_site : hosts s.number ≡ h
  at_site = rw (eq-eqb s.number s.number refl)

  elsewhere : (x : ℕ) → (x ≡ s.number → ⊥) → hosts x ≡ w.host x
  elsewhere x other = rw (ne_eqb x s.number other)

  still_kept : (t : Site) → Kept t.number made (hosts t.number)
  still_kept t =
      by_cases (ℕ_discrete t.number s.number)
      (λ same. subst (λ (n : ℕ). Kept n made (hosts n)) (sym same) (subst (Kept s.number made) (sym at_site) kept))
      (λ other.
      let was = fair.kept t in
      subst (Kept t.number made) (sym (elsewhere t.number other))
      (record { history = was.history; holds = was.holds; from = λ b m. older b (was.from b m) }))

  -- what a host had received, it still has
  grows : (x : ℕ) (b : List ℕ) → Memᴰ b (w.host x).received → Memᴰ b (hosts x).received
  grows x b m =
      by_cases (ℕ_discrete x s.number)
      (λ same.
      subst (λ (n : ℕ). Memᴰ b (hosts n).received) (sym same)
      (subst (λ (k : Host). Memᴰ b k.received) (sym at_site) (more b (subst (λ (n : ℕ). Memᴰ b (w.host n).received) same m))))
      (λ other. subst (λ (k : Host). Memᴰ b k.received) (sym (elsewhere x other)) m)

  pub still_fair : Fair (record { host = hosts; made = made })
  still_fair =
      record {
        kept = still_kept;
        authored = λ b m.
            ⊎_elim
            (λ (old : Memᴰ b w.made).
            let was = fair.authored b old in
            record { least = was.least; most = was.most; received = grows (patch_of b).author b was.received })
            (λ (is : ((patch_of b).author ≡ s.number) × Memᴰ b h.received).
            record {
              least = rw is.0 s.least;
              most = rw is.0 s.most;
              received = subst (λ (n : ℕ). Memᴰ b (hosts n).received) (sym is.0)
                  (subst (λ (k : Host). Memᴰ b k.received) (sym at_site) is.1);
            })
            (new b m);
      }

-- At the beginning nothing was made.
begin_kept : (s : Site) → Kept s.number [] (begin.host s.number)
unfolding begin after
begin_kept s =
    let state : List ℕ = replicate record_size 0 in
    let table : List ℕ = replicate table_size 0 in
    record {
      history = tt;
      holds = (start_holds state table (length-replicate {A = ℕ} record_size 0) (length-replicate {A = ℕ} table_size 0)
          s.number s.least s.most).1;
      from = λ b m. absurd (Memᴰ.not-nil m);
    }

pub begin_fair : Fair begin
unfolding begin
begin_fair = record { kept = begin_kept; authored = λ b m. absurd (Memᴰ.not-nil m) }

module _ (w : World) (fair : Fair w) (s : Site) where
  abbrev h : Host
  h = w.host s.number

  abbrev g : List (List ℕ)
  g = h.received

  abbrev was : Kept s.number w.made h
  was = fair.kept s

  -- a call that leaves the bytes as they were
  stays_fair : (state table : List ℕ) → (state ≡ h.state) × (table ≡ h.table)
      → Fair (record { host = changed w.host s.number (keeps state table g); made = w.made })
  stays_fair state table (state-is, table_is) =
      still_fair w fair s (keeps state table g) w.made
      (record {
        history = was.history;
        holds = record { record_is = state-is ∙ was.holds.record_is; table_is = table_is ∙ was.holds.table_is };
        from = was.from;
      })
      (λ b m. m) (λ b m. m) (λ b m. inl m)

  -- a patch made
  own_fair : (b state table : List ℕ) → OwnTold (after s.number g) b state table
      → Fair (record { host = changed w.host s.number (keeps state table (b ∷ g)); made = b ∷ w.made })
  unfolding after
  own_fair b state table told =
      still_fair w fair s (keeps state table (b ∷ g)) (b ∷ w.made)
      (record {
        history = (was.history, record { takes = told.takes; own = λ e. told.made });
        holds = told.holds;
        from = λ c m.
            ⊎_elim (λ (e : c ≡ b). Memᴰ.head e) (λ (k : Memᴰ c g). Memᴰ.tail (was.from c k)) (Memᴰ.cases_cons m);
      })
      (λ c m. Memᴰ.tail m) (λ c m. Memᴰ.tail m)
      (λ c m.
      ⊎_elim
      (λ (e : c ≡ b). inr (ap (λ (x : List ℕ). (patch_of x).author) e ∙ told.made.author ∙ after_site s.number g, Memᴰ.head e))
      (λ (k : Memᴰ c w.made). inl k) (Memᴰ.cases_cons m))

  -- a patch received
  received_fair : (b : List ℕ) → Memᴰ b w.made → (state table : List ℕ) → ReceivedTold (after s.number g) b state table
      → Fair (record { host = changed w.host s.number (keeps state table (b ∷ g)); made = w.made })
  unfolding after
  received_fair b made state table told =
      still_fair w fair s (keeps state table (b ∷ g)) w.made
      (record {
        history = (was.history, record { takes = told.takes; own = λ e. absurd (told.other (e ∙ sym (after_site s.number g))) });
        holds = told.holds;
        from = λ c m.
            ⊎_elim (λ (e : c ≡ b). subst (λ (x : List ℕ). Memᴰ x w.made) (sym e) made) (λ (k : Memᴰ c g). was.from c k)
            (Memᴰ.cases_cons m);
      })
      (λ c m. m) (λ c m. Memᴰ.tail m) (λ c m. inl m)

  -- an own edit, done or refused
  pub own_step : (c : OwnCalled)
      → (c.answer ≡ 0 → OwnTold (after s.number g) (take c.written c.patch) c.state c.table)
      → ((c.answer ≡ 0 → ⊥) → (c.state ≡ h.state) × (c.table ≡ h.table)) → Fair (own w s.number c)
  unfolding own
  own_step c tells stays = by (eqb c.answer 0) refl
    where
      by : (b : Bool) → eqb c.answer 0 ≡ b
          → let patch = take c.written c.patch in
          Fair (record {
            host = changed w.host s.number (keeps c.state c.table (cond b (patch ∷ g) g));
            made = cond b (patch ∷ w.made) w.made;
          })
      by true e = own_fair (take c.written c.patch) c.state c.table (tells (eqb-true c.answer 0 e))
      by false e = stays_fair c.state c.table (stays (eqb-false c.answer 0 e))

  -- what the host holds is sound
  pub sound_now : SoundHeld (after s.number g)
  sound_now = after_sound s.number s.least s.most g was.history

  -- a patch handed over, done or refused
  pub offer_step : (b : List ℕ) → Memᴰ b w.made → Fair (offer w s.number b)
  unfolding offer
  offer_step b made = by (eqb c.answer 0) refl (eqb c.answer 15) refl
    where
      c : Called
      c = receive_bytes h.state h.table b

      done : (c.answer ≡ 0) ⊎ (c.answer ≡ 15)
          → Fair (record { host = changed w.host s.number (keeps c.state c.table (b ∷ g)); made = w.made })
      done answered =
          received_fair b made c.state c.table
          (receive_done_tells (after s.number g) sound_now h.state h.table was.holds b answered)

      by : (x : Bool) → eqb c.answer 0 ≡ x → (y : Bool) → eqb c.answer 15 ≡ y
          → Fair (record { host = changed w.host s.number (keeps c.state c.table (cond (x || y) (b ∷ g) g)); made = w.made })
      by true e y f = done (inl (eqb-true c.answer 0 e))
      by false e true f = done (inr (eqb-true c.answer 15 f))
      by false e false f =
          stays_fair c.state c.table
          (receive_stays (after s.number g) sound_now h.state h.table was.holds b
          (eqb-false c.answer 0 e) (eqb-false c.answer 15 f))

-- One call.
pub step_fair : (w : World) → Fair w → (c : Call) → Fair (step w c)
unfolding step
step_fair w fair (insert s row text draw buffer) =
    let h = w.host s.number in
    let held = after s.number h.received in
    let holds = (fair.kept s).holds in
    let sound = sound_now w fair s in
    own_step w fair s (insert_bytes h.state h.table row text draw buffer)
    (insert_tells held sound h.state h.table holds row text draw buffer)
    (insert_stays held sound h.state h.table holds row text draw buffer)
step_fair w fair (delete s row buffer) =
    let h = w.host s.number in
    let held = after s.number h.received in
    let holds = (fair.kept s).holds in
    let sound = sound_now w fair s in
    own_step w fair s (delete_bytes h.state h.table row buffer)
    (delete_tells held sound h.state h.table holds row buffer)
    (delete_stays held sound h.state h.table holds row buffer)
step_fair w fair (receive s k) = by (ltb k (length w.made)) refl
  where
    by : (b : Bool) → ltb k (length w.made) ≡ b → Fair (cond b (offer w s.number (get_or w.made k [])) w)
    by true e = offer_step w fair s (get_or w.made k []) (mem_at [] w.made k (ltb-true k (length w.made) e))
    by false e = fair

-- Any calls.
pub run_fair : (w : World) → Fair w → (calls : List Call) → Fair (run w calls)
unfolding run
run_fair w fair [] = fair
run_fair w fair (c ∷ calls) = run_fair (step w c) (step_fair w fair c) calls
