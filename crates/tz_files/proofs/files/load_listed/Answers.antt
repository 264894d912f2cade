-- Each exit by the file that was read before it.
use Rattle.tz_words.specs.Dis.{dis_in}
use Rattle.tz_files.proofs.Loads.{listed_before, listed_fault, listed_with}
use Rattle.tz_files.proofs.files.load_listed.Goals as goal

pub returns-in-Err : goal.returns-in-Err
returns-in-Err g c = listed_before _ _ (dis_in c.args.words.now) c.in-Err.fault c.in-Err.ensures

pub returns-in-Ok-load_image : goal.returns-in-Ok-load_image
returns-in-Ok-load_image g c = listed_with _ _ _ (dis_in c.args.words.now) c.in-Ok.board c.in-Ok-load_image.image c.in-Ok.ensures c.in-Ok-load_image.ensures

pub returns : goal.returns
returns g c = listed_fault _ _ _ (dis_in c.args.words.now) c.in-Ok.board c.in-Err-load_image.fault c.in-Ok.ensures c.in-Err-load_image.ensures
