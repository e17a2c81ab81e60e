-- The theorem, from the contracts that the code meets and the demands over definitions.
use Rattle.opening.proofs.open.Met as open_met
use Rattle.adding.proofs.add.Met as add_met
use Rattle.matching.proofs.nearest.Met as nearest_met
use Rattle.listing.proofs.k_nearest.Met as list_met
use Rattle.sheet_writing.proofs.write_sheet.Met as write_met
use Rattle.sheet_reading.proofs.read_sheet.Met as read_met
use Rattle.importing.proofs.import_recording.Met as import_met
use Rattle.exporting.proofs.export_recording.Met as export_met
use Rattle.checking.proofs.check_tables.Met as check_met
use Rattle.batching.proofs.match_all.Met as batch_met
use Rattle.batch_answers.proofs.store.Met as store_met
use Rattle.adding.proofs.add_labelled.Met as add_labelled_met
use Rattle.labelling.proofs.label.Met as label_met
use Rattle.remote.proofs.remote_match.Met as remote_met
use Rattle.banding.proofs.count_bands.Met as band_met
use Rattle.pairing.proofs.match_both.Met as pair_met
use Rattle.limiting.proofs.match_within.Met as limit_met
use Rattle.clipping.proofs.match_clipped.Met as clip_met
use mathlib.Core.Path.{refl}
use Rattle.calls.proofs.Demands.{demands}
use Rattle.demands.specs.Theorem.{Theorem}
use Rattle.demands.proofs.Follows.{follows}
use Rattle.demands.proofs.Replies.{replies}

pub theorem : Theorem
theorem = record {
  open_meets = open_met.met;
  add_meets = add_met.met;
  nearest_meets = nearest_met.met;
  write_meets = write_met.met;
  read_meets = read_met.met;
  list_meets = list_met.met;
  import_meets = import_met.met;
  export_meets = export_met.met;
  check_meets = check_met.met;
  batch_meets = batch_met.met;
  store_meets = store_met.met;
  add_labelled_meets = add_labelled_met.met;
  label_meets = label_met.met;
  remote_meets = remote_met.met;
  band_meets = band_met.met;
  pair_meets = pair_met.met;
  limit_meets = limit_met.met;
  clip_meets = clip_met.met;
  open_clause = λ M 𝓤 𝓛 mem run κs args. refl;
  add_clause = λ M 𝓤 𝓛 mem run κs args. refl;
  nearest_clause = λ M 𝓤 𝓛 mem run κs args. refl;
  write_clause = λ M 𝓤 𝓛 mem run κs args. refl;
  read_clause = λ M 𝓤 𝓛 mem run κs args. refl;
  list_clause = λ M 𝓤 𝓛 mem run κs args. refl;
  import_clause = λ M 𝓤 𝓛 mem run κs args. refl;
  export_clause = λ M 𝓤 𝓛 mem run κs args. refl;
  check_clause = λ M 𝓤 𝓛 mem run κs args. refl;
  batch_clause = λ M 𝓤 𝓛 mem run κs args. refl;
  store_clause = λ M 𝓤 𝓛 mem run κs args. refl;
  add_labelled_clause = λ M 𝓤 𝓛 mem run κs args. refl;
  label_clause = λ M 𝓤 𝓛 mem run κs args. refl;
  remote_clause = λ M 𝓤 𝓛 mem run κs args. refl;
  band_clause = λ M 𝓤 𝓛 mem run κs args. refl;
  pair_clause = λ M 𝓤 𝓛 mem run κs args. refl;
  limit_clause = λ M 𝓤 𝓛 mem run κs args. refl;
  clip_clause = λ M 𝓤 𝓛 mem run κs args. refl;
  follows = follows;
  replies = replies;
  demands = demands;
}
