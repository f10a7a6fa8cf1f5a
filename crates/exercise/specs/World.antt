-- An exercise (condition 3): up to 16 hosts, each started once, and any list of calls. A host that makes no call
-- is one that is not there. What a call does is the call's own definition over bytes (`host`, specs/Calls.antt);
-- nothing else changes a host. Loss, repetition and reordering are the choice of calls.
-- Assumes nothing.
use Rattle.std.specs.Prelude.{ℕ, ◌≤◌, Bool, cond, ◌||◌, List, [], ◌∷◌, eqb, ltb, length, take, get_or, replicate}
use Rattle.record.specs.Records.{record_size}
use Rattle.script.specs.Lines.{table_size}
use Rattle.host.specs.Calls.{OwnCalled, start_bytes, receive_bytes, insert_bytes, delete_bytes}

-- what a host keeps: the bytes of its record and its table, and the patches that it has received, the
-- newest first
pub record Host : Type 0 where
  pub state : List ℕ
  pub table : List ℕ
  pub received : List (List ℕ)

-- the host of each site, and every patch made so far, the newest first
pub record World : Type 0 where
  pub host : ℕ → Host
  pub made : List (List ℕ)

abbrev pub keeps : List ℕ → List ℕ → List (List ℕ) → Host
keeps state table received = record { state = state; table = table; received = received }

-- "each started empty under a site number nobody else uses"
unfoldable pub begin : World
begin = record {
  host = λ site. let c = start_bytes (replicate record_size 0) (replicate table_size 0) site in keeps c.state c.table [];
  made = [];
}

-- "Site: 1 to 16"
pub record Site : Type 0 where
  pub number : ℕ
  pub least : 1 ≤ number
  pub most : number ≤ 16

abbrev pub host_of : World → Site → Host
host_of w s = w.host s.number

-- "Only these operations change them": insert and delete at a site, with any arguments, and receive at a site
-- of a patch made so far, the k-th of them
pub data Call : Type 0 where
  insert : (site : Site) (row : ℕ) (text : List ℕ) (draw : ℕ) (buffer : List ℕ) → Call
  delete : (site : Site) (row : ℕ) (buffer : List ℕ) → Call
  receive : (site : Site) (k : ℕ) → Call

-- the hosts with that of one site changed
abbrev pub changed : (ℕ → Host) → ℕ → Host → ℕ → Host
changed hosts site h s = cond (eqb s site) h (hosts s)

-- an own edit: answered 0 it has made a patch, and "Own edits count as received"
unfoldable pub own : World → ℕ → OwnCalled → World
own w site c =
    let received = (w.host site).received in
    let patch = take c.written c.patch in
    let done = eqb c.answer 0 in
    record {
      host = changed w.host site (keeps c.state c.table (cond done (patch ∷ received) received));
      made = cond done (patch ∷ w.made) w.made;
    }

-- "received (answered 0 or 15)"
abbrev pub taken : ℕ → Bool
taken n = eqb n 0 || eqb n 15

-- a patch handed over
unfoldable pub offer : World → ℕ → List ℕ → World
offer w site patch =
    let h = w.host site in
    let c = receive_bytes h.state h.table patch in
    record {
      host = changed w.host site (keeps c.state c.table (cond (taken c.answer) (patch ∷ h.received) h.received));
      made = w.made;
    }

-- one call; a patch that was never made is not handed over
unfoldable pub step : World → Call → World
step w (insert site row text draw buffer) =
    let h = host_of w site in own w site.number (insert_bytes h.state h.table row text draw buffer)
step w (delete site row buffer) =
    let h = host_of w site in own w site.number (delete_bytes h.state h.table row buffer)
step w (receive site k) = cond (ltb k (length w.made)) (offer w site.number (get_or w.made k [])) w

unfoldable pub run : World → List Call → World
run w [] = w
run w (c ∷ cs) = run (step w c) cs
