use Rattle.std.proofs.Common.{rules}
use Rattle.buffer_pool.proofs.Cached.{first_result, first_used, stay_used, told_bad, told_found}
use Rattle.buffer_pool.proofs.Fitting.{fits_read}
use Rattle.buffer_pool.proofs.shard.Shard.fetch.Goals as goal

pub returns-in_err-found-clause-bad : goal.returns-in_err-found-clause-bad
returns-in_err-found-clause-bad g c = λ named fits. search (rules, told_bad (g.D.Drive.pages named) c.args.kind c.args.file c.args.page c.args.address c.args.self.now.cache.entries c.in_err-found.field-0.0 fits.cached c.in_err-found.ensures.err)

pub returns-in-Some-clause-told : goal.returns-in-Some-clause-told
returns-in-Some-clause-told g c = λ named fits. told_found (g.D.Drive.pages named) c.args.address c.args.self.now.cache.entries c.in-Some.found fits.cached (search rules)

pub returns-in-Some-clause-recent : goal.returns-in-Some-clause-recent
returns-in-Some-clause-recent g c = first_used _ _ c.args.self.now.cache _ (rw c.in-Some.is at c.in_ok-found.ensures.used)

pub returns-in-Some-clause-fits : goal.returns-in-Some-clause-fits
returns-in-Some-clause-fits g c = λ named fits.
    let told = told_found (g.D.Drive.pages named) c.args.address c.args.self.now.cache.entries c.in-Some.found fits.cached (search rules) in
    record {
      drive = fits.drive;
      count = fits.count;
      cached = stay_used _ c.args.address _ c.args.self.now.cache _ told (rw c.in-Some.is at c.in_ok-found.ensures.used) fits.cached;
    }

pub returns-clause-recent : goal.returns-clause-recent
returns-clause-recent g c = first_result c.args.address _ c.load.new.self.cache c.load.result c.load.ensures.used

pub returns-clause-fits : goal.returns-clause-fits
returns-clause-fits g c = λ named fits.
    fits_read g.D.Drive named c.args.address c.args.self.now c.use_cached.new.cache c.load.new.self c.load.result fits (rw c.in_default.is at c.in_ok-found.ensures.used)
    c.load.ensures.read (c.load.ensures.covers _) c.load.ensures.told c.load.ensures.used c.load.ensures.same
