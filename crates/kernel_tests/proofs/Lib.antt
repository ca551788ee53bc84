mod FirstReleases
